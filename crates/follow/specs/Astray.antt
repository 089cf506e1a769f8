-- Astray is exactly "the links run into a ring that lacks the start", and P links are enough.
use Rattle.std.specs.Prelude.{ℕ, ◌+◌, ◌≤◌}
use Rattle.follow.specs.declared.Verdict.{Verdict}
use Rattle.follow.specs.Steps.{Leads}

module _ (v : ℕ → Verdict) (start : ℕ) where
  -- "the links run into a ring that lacks the start": after some links, and again after some more around, they are at the same page, and never back at the start
  pub record RunsIntoRing : Type 0 where
    pub page : ℕ
    pub before : ℕ
    pub around : ℕ
    pub some_way : 1 ≤ around
    pub first : Leads v start before page
    pub again : Leads v start (before + around) page
