-- The program's buffers, formatted: their fronts hold the volume that a script begins with.
use Rattle.std.specs.Prelude.{ℕ, ◌*◌, ◌-◌, ◌≤◌, ◌≡◌, refl, List, true, length, replicate, take, drop, None, Result, Ok, Err}
use Rattle.std.proofs.Common.{arith, sym, ◌∙◌, subst}
use Rattle.std.proofs.Math.Path.{ap}
use borrow.Rule.Slice.PartMut.{put_mid}
use Rattle.bounded.specs.Limits.{no_number, two_widths}
use Rattle.bounded.specs.Fronts.{equal_lent}
use Rattle.outcome.specs.declared.Refusal.{Refusal}
use Rattle.outcome.specs.Outcome.{Outcome}
use Rattle.outcome.specs.Result.{ends}
use Rattle.sizes.specs.declared.Sizes.{Sizes}
use Rattle.sizes.specs.Sizes.{sizes_ok}
use Rattle.sizes.proofs.SizesLaws.{sizes_facts}
use Rattle.rules.specs.Volume.{Volume, volume}
use Rattle.rules.specs.Format.{formatted, format_outcome}
use Rattle.ledger.specs.Fills.{fills_of}
use Rattle.ledger.specs.FillsLaws.{fills_none}
use Rattle.cutpoint.specs.JudgedLaws.{lent, front_again}
use Rattle.recorded.specs.Buffers.{contents_room}
use Rattle.recorded.specs.Desk.{Desk, desk, Ready}
use Rattle.cuts.specs.Recording.{zeroed}
use Rattle.cuts.specs.Run.{formatted_desk}
use Rattle.cuts.specs.Reported.{zeroed_formats, fresh_follows}

-- what a call leaves is what its outcome says
ends_left : (r : Result (Unit {0}) Refusal) (v : Volume) → (ends r v).left ≡ v
ends_left (Ok x) v = refl
ends_left (Err refusal) v = refl

module _ (z : Sizes) (ok : sizes_ok two_widths z ≡ true) where
  -- the buffers have room for the volume
  pub words_room : 5 * z.slots ≤ 5120
  words_room = let b = (sizes_facts two_widths z ok).0 in omega arith

  pub bytes_room : z.width * z.slots ≤ 65536
  bytes_room = let b = sizes_facts two_widths z ok in contents_room z b.1 b.0.slots_most

  pub state_room : 4 * z.pages ≤ 1024
  state_room = let b = (sizes_facts two_widths z ok).0 in omega arith

  -- their fronts, as they are lent to the format
  fronts : volume (lent (5 * z.slots) 5120) (lent (z.width * z.slots) 65536) (lent (4 * z.pages) 1024) ≡ zeroed z
  unfolding zeroed
  fronts =
      let w = equal_lent (5 * z.slots) 5120 0 words_room in
      let b = equal_lent (z.width * z.slots) 65536 0 bytes_room in
      let s = equal_lent (4 * z.pages) 1024 0 state_room in
      rw (w, b, s)

  module _ (r : Result (Unit {0}) Refusal) (words contents state : List ℕ)
      (says : ends r (volume words contents state) ≡ format_outcome two_widths z (volume (lent (5 * z.slots) 5120) (lent (z.width * z.slots) 65536) (lent (4 * z.pages) 1024)))
      (words_kept : length words ≡ length (lent (5 * z.slots) 5120)) (contents_kept : length contents ≡ length (lent (z.width * z.slots) 65536)) (state_kept : length state ≡ length (lent (4 * z.pages) 1024)) where
    -- lent again, they are what the run begins with
    pub begins :
        desk
        (volume
        (take (5 * z.slots - 0) (drop 0 (put_mid 0 (5 * z.slots - 0) (replicate 5120 0) words)))
        (take (z.width * z.slots - 0) (drop 0 (put_mid 0 (z.width * z.slots - 0) (replicate 65536 0) contents)))
        (take (4 * z.pages - 0) (drop 0 (put_mid 0 (4 * z.pages - 0) (replicate 1024 0) state))))
        (fills_of (replicate 256 None)) (replicate 256 0)
        ≡ formatted_desk z
    unfolding formatted_desk
    begins =
        let w = front_again (5 * z.slots) 5120 words_room words words_kept in
        let b = front_again (z.width * z.slots) 65536 bytes_room contents contents_kept in
        let s = front_again (4 * z.pages) 1024 state_room state state_kept in
        let v : volume words contents state ≡ formatted z = sym (ends_left r (volume words contents state)) ∙ ap (λ (o : Outcome Volume). o.left) (says ∙ ap (format_outcome two_widths z) fronts ∙ zeroed_formats two_widths z ok) in
        rw (w, b, s, fills_none 256) (ap (λ (u : Volume). desk u (replicate 256 no_number) (replicate 256 0)) v)

  pub begun_ready : (d : Desk) → d ≡ formatted_desk z → Ready two_widths z d
  begun_ready d e = subst (Ready two_widths z) (sym e) (fresh_follows two_widths z ok).ready
