-- An entry tells a page's walk; on the way from a start it is found; and a table of such entries is filled from the pages that have none.
-- Over any table of verdicts: no record is mentioned.
use Rattle.std.specs.Prelude.{ℕ, ◌+◌, ◌≤◌, ◌<◌, ◌≡◌, refl, List, true, false, get_or, set, replicate}
use native.Mathlib.Omega.{arith}
use Rattle.std.proofs.Common.{sym, ◌∙◌, subst, length-set, get_or-set_same, get_or-set_other}
use Rattle.std.proofs.Math.Path.{ap}
use Rattle.std.proofs.lemmas.List.{length-replicate, get_or-replicate}
use Rattle.bounded.specs.Below.{some_below}
use Rattle.bounded.specs.BelowLaws.{some_none, some_of}
use Rattle.bounded.specs.Choice.{on_eq}
use Rattle.follow.specs.declared.Verdict.{Verdict}
use Rattle.follow.specs.declared.Verdict.TheVariants as says
use Rattle.follow.specs.declared.End.TheVariants as ends
use Rattle.follow.specs.declared.Walk.{Walk}
use Rattle.follow.specs.declared.Found.{Found}
use Rattle.follow.specs.declared.Found.TheVariants as found
use Rattle.follow.specs.Follow.{follow, is_astray, StaysInside}
use Rattle.follow.specs.Steps.{here, onward}
use Rattle.follow.proofs.Course.{walk_astray, as_many}
use Rattle.follow.proofs.Links.{walked_exactly, walked_most}
use Rattle.follow.specs.Ends.{last_committed, last_uncommitted}
use Rattle.follow.proofs.Ends.{ends_on, ends_led, ends_walked, ends_some, start_in_ring, ring_on, ring_follow}
use Rattle.follow.specs.Walks.{walk_told, Followed, Tells, committed_end, uncommitted_end, ring_end, links_found, found_on, Known, HasEntry, Given, Underway}

-- ---- the walk that an entry tells

-- no entry tells of a walk astray
pub never_astray : (n : Found) → is_astray (walk_told n).end ≡ false
unfolding is_astray
never_astray found.Nothing = refl
never_astray (found.Committed k) = refl
never_astray (found.Uncommitted k) = refl
never_astray (found.Ring k) = refl

-- a walk is something found, and has a link
pub some_found : {P : ℕ} {v : ℕ → Verdict} {p : ℕ} {n : Found} → Tells P v p n → ¬ (n ≡ found.Nothing)
some_found (committed_end x i) z = let y : ◌≡◌ {A = ℕ} 0 1 = cc in omega arith
some_found (uncommitted_end x i) z = let y : ◌≡◌ {A = ℕ} 0 1 = cc in omega arith
some_found (ring_end r i) z = let y : ◌≡◌ {A = ℕ} 0 1 = cc in omega arith

pub some_links : {P : ℕ} {v : ℕ → Verdict} {p : ℕ} {n : Found} → Tells P v p n → 1 ≤ links_found n
some_links (committed_end x i) = rw i (ends_some x)
some_links (uncommitted_end x i) = rw i (ends_some x)
some_links (ring_end r i) = rw i (let h = r.within in omega arith)

module _ (P : ℕ) (v : ℕ → Verdict) (closed : StaysInside P v) (p : ℕ) (inside : p < P) where
  -- the entry is the walk,
  pub tells_walk : {n : Found} → Tells P v p n → walk_told n ≡ follow P v p
  tells_walk (committed_end {links = k} x i) = rw i (sym (walked_exactly P v p inside closed ends.Committed k (ends_walked x)))
  tells_walk (uncommitted_end {links = k} x i) = rw i (sym (walked_exactly P v p inside closed ends.Uncommitted k (ends_walked x)))
  tells_walk (ring_end {k = k} r i) = rw i (sym (ring_follow r))

  -- of P links at the most
  pub links_most : {n : Found} → Tells P v p n → links_found n ≤ P
  links_most (committed_end {links = k} x i) = rw i (walked_most P v p inside closed ends.Committed k (ends_walked x))
  links_most (uncommitted_end {links = k} x i) = rw i (walked_most P v p inside closed ends.Uncommitted k (ends_walked x))
  links_most (ring_end r i) = rw i (r.few)

module _ {P : ℕ} {v : ℕ → Verdict} where
  -- what is found of the page that its link leads to
  pub tells_on : {p q : ℕ} {n : Found} → v p ≡ says.On q → Tells P v p n → Tells P v q (found_on n)
  tells_on f (committed_end x i) = let w = ends_on f x in
      let h = w.1 in
      rw i (committed_end w.2 (ap found.Committed (omega arith)))
  tells_on f (uncommitted_end x i) = let w = ends_on f x in
      let h = w.1 in
      rw i (uncommitted_end w.2 (ap found.Uncommitted (omega arith)))
  tells_on {q = q} f (ring_end r i) = rw i (ring_end (ring_on r q f) refl)

-- ---- on the way from a start

module _ {P : ℕ} {v : ℕ → Verdict} {start : ℕ} where
  pub at_start : start < P → Underway P v start start 0
  at_start h = record { inside = h; leads = here }

  module _ {page before : ℕ} (way : Underway P v start page before) where
    open way use {inside, leads}

    -- the page's verdict decides,
    pub found_committed : v page ≡ says.Committed → Tells P v start (found.Committed (before + 1))
    found_committed e = (committed_end (ends_led leads (last_committed e)) refl)

    pub found_uncommitted : v page ≡ says.Uncommitted → Tells P v start (found.Uncommitted (before + 1))
    found_uncommitted e = (uncommitted_end (ends_led leads (last_uncommitted e)) refl)

    -- "Back at the start: committed.",
    pub found_ring : start < P → StaysInside P v → v page ≡ says.On start → Tells P v start (found.Ring (before + 1))
    found_ring h closed e = (ring_end (start_in_ring leads e P h closed) (ap found.Ring (omega arith)))

    -- or it goes on at a page:
    module _ {next : ℕ} (on : v page ≡ says.On next) (past : ¬ (next ≡ start)) where
      -- the page has an end,
      pub found_known_committed : {rest : ℕ} → Tells P v next (found.Committed rest) → Tells P v start (found.Committed (before + 1 + rest))
      found_known_committed {rest} (committed_end {links = k} x i) = let e : k ≡ rest = cc in (committed_end (ends_led (onward leads on past) x) (ap found.Committed (omega arith)))
      found_known_committed {rest} (uncommitted_end x i) = absurd (let z : ◌≡◌ {A = ℕ} 0 1 = cc in omega arith)
      found_known_committed {rest} (ring_end x i) = absurd (let z : ◌≡◌ {A = ℕ} 0 1 = cc in omega arith)

      pub found_known_uncommitted : {rest : ℕ} → Tells P v next (found.Uncommitted rest) → Tells P v start (found.Uncommitted (before + 1 + rest))
      found_known_uncommitted {rest} (committed_end x i) = absurd (let z : ◌≡◌ {A = ℕ} 0 1 = cc in omega arith)
      found_known_uncommitted {rest} (uncommitted_end {links = k} x i) = let e : k ≡ rest = cc in (uncommitted_end (ends_led (onward leads on past) x) (ap found.Uncommitted (omega arith)))
      found_known_uncommitted {rest} (ring_end x i) = absurd (let z : ◌≡◌ {A = ℕ} 0 1 = cc in omega arith)

      -- or the way goes on there,
      pub one_link_on : StaysInside P v → Underway P v start next (before + 1)
      one_link_on closed = record { inside = closed page next inside on; leads = as_many (onward leads on past) (omega arith) }

  -- until P links are followed: "the links run into a ring that lacks the start".
  pub found_astray : {page : ℕ} → Underway P v start page P → (follow P v start).end ≡ ends.Astray
  unfolding follow
  found_astray way = ap (λ (w : Walk). w.end) (walk_astray way.leads)

-- ---- the table, page by page

module _ {P : ℕ} {v : ℕ → Verdict} where
  -- before any page
  pub nothing_known : (N : ℕ) → N ≡ 256 → P ≤ N → Known P v (replicate N found.Nothing)
  nothing_known N e few =
      record { sized = length-replicate N found.Nothing ∙ e; entry = λ p h s. absurd (s (get_or-replicate N p found.Nothing found.Nothing (omega arith))) }

  module _ {walks : List Found} (known : Known P v walks) where
    pub entry_tells : {p : ℕ} {n : Found} → p < P → get_or walks p found.Nothing ≡ n → ¬ (n ≡ found.Nothing) → Tells P v p n
    entry_tells {p} h e s = subst (λ (x : Found). Tells P v p x) e (known.entry p h (λ z. s (sym e ∙ z)))

    pub committed_known : {p k : ℕ} → p < P → get_or walks p found.Nothing ≡ found.Committed k → Tells P v p (found.Committed k)
    committed_known h e = entry_tells h e (λ z. let y : ◌≡◌ {A = ℕ} 0 1 = cc z in omega arith)

    pub uncommitted_known : {p k : ℕ} → p < P → get_or walks p found.Nothing ≡ found.Uncommitted k → Tells P v p (found.Uncommitted k)
    uncommitted_known h e = entry_tells h e (λ z. let y : ◌≡◌ {A = ℕ} 0 1 = cc z in omega arith)

    -- a page's walk is stored,
    pub walk_stored : {q : ℕ} {n : Found} → q < 256 → Tells P v q n → Given P v q walks (set walks q n)
    walk_stored {q} {n} h t =
        record {
          known =
              record {
                sized = length-set walks q n ∙ known.sized;
                entry = λ p b m. on_eq p q (λ s. rw (s, same) t) (λ d. rw (other p d) (known.entry p b (λ z. m (other p d ∙ z))));
              };
          has = some;
          keeps = λ p b. on_eq p q (λ s. rw s some) (λ d. rw (other p d) b);
        }
      where
        same : get_or (set walks q n) q found.Nothing ≡ n
        same = let e = known.sized in get_or-set_same walks q n found.Nothing (omega arith)

        other : (p : ℕ) → ¬ (p ≡ q) → get_or (set walks q n) p found.Nothing ≡ get_or walks p found.Nothing
        other p d = get_or-set_other walks q p n found.Nothing d

        some : HasEntry (set walks q n) q
        some z = some_found t (sym same ∙ z)

  -- and then another page's.
  pub given_then : {p q : ℕ} {first second third : List Found} → Given P v p first second → Given P v q second third → Given P v p first third
  given_then {p} a b =
      record { known = b.known; has = b.keeps p a.has; keeps = λ r h. b.keeps r (a.keeps r h) }

  -- A table with an entry for each page has every walk,
  pub all_followed : {walks : List Found} → StaysInside P v → Known P v walks → ((p : ℕ) → p < P → HasEntry walks p) → Followed P v walks
  all_followed closed known has =
      record { each = λ p h. tells_walk P v closed p h (known.entry p h (has p h)) }

  -- and then none is astray.
  pub none_astray : {walks : List Found} → Followed P v walks → some_below P (λ p. is_astray (follow P v p).end) ≡ false
  none_astray {walks} all =
      some_none (λ p. is_astray (follow P v p).end) P
      (λ p h. ap (λ (w : Walk). is_astray w.end) (sym (all.each p h)) ∙ never_astray (get_or walks p found.Nothing))

-- One walk astray is some.
pub some_astray : (P : ℕ) (v : ℕ → Verdict) (p : ℕ) → p < P → (follow P v p).end ≡ ends.Astray → some_below P (λ q. is_astray (follow P v q).end) ≡ true
unfolding is_astray
some_astray P v p h e = some_of (λ q. is_astray (follow P v q).end) P p h (ap is_astray e)
