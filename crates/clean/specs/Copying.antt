-- The copies done one by one: what is copied is as it was before the first, so that the steps are those that were fixed then.
use Prim.Native.Nat.{ℕ, suc, ◌≤◌, ◌<◌}
use Rattle.std.proofs.Common.{arith, sym, ◌∙◌}
use Rattle.std.specs.Prelude.{◌≡◌, refl, length}
use Rattle.std.proofs.Math.Path.{ap, ap₂, subst}
use mathlib.Core.List.{List, [], ◌∷◌, Memᴰ}
use Rattle.bounded.specs.Parts.{put_part}
use Rattle.sizes.specs.declared.Layout.TheVariants.{FiveWords}
use Rattle.record.specs.declared.Record.{Record}
use Rattle.record.specs.Slot.{Slot}
use Rattle.record.specs.Slot.{encoded, slot_at, bytes_at}
use Rattle.record.specs.Flash.{Flash, flash, Step, put_slot_in, apply_in, apply, apply_all_in, apply_all}
use Rattle.record.specs.FlashLaws.{SizedIn}
use Rattle.upkeep.specs.Clean.{record_in, copy_step, copy_steps}
use Rattle.upkeep.specs.laws.Copies.{Ready}
use Rattle.upkeep.proofs.laws.Copies.{first_source, first_below_lem, ready_on}

-- one copy, its bytes through a buffer of w
pub copy_is :
    (w from to : ℕ) (r : Record) (buffer words contents words' contents' : List ℕ)
    → r ≡ record_in (slot_at words from)
    → length buffer ≡ w
    → buffer ≡ bytes_at w contents from
    → words' ≡ put_part 5 to (encoded FiveWords r) words
    → contents' ≡ put_part (length buffer) to buffer contents
    → flash words' contents' ≡ apply w (flash words contents) (copy_step w (flash words contents) from to)
unfolding copy_step apply_in put_slot_in
copy_is w from to r buffer words contents words' contents' e n b d c =
    ap₂ {C = Flash} flash
    (d ∙ ap (λ (x : Record). put_part 5 to (encoded FiveWords x) words) e)
    (c ∙ ap₂ (λ (m : ℕ) (x : List ℕ). put_part m to x contents) n b)

-- some copies of f's records are done and have left g; those of the slots `from` to the slots `to` are left, and may be done
pub record Copying (w S : ℕ) (f : Flash) (all_from all_to : List ℕ) (g : Flash) (from to : List ℕ) : Type 0 where
  pub sized : SizedIn FiveWords w S f
  pub lowest : ℕ
  pub ready : Ready w S f sized g lowest from to
  pub room : length from ≤ length to
  pub left : apply_all w g (copy_steps w f from to) ≡ apply_all w f (copy_steps w f all_from all_to)

pub copying_begins : (w S : ℕ) (f : Flash) (from to : List ℕ) (sized : SizedIn FiveWords w S f) → Ready w S f sized f 0 from to → length from ≤ length to → Copying w S f from to f from to
copying_begins w S f from to sized ready room = record { sized = sized; lowest = 0; ready = ready; room = room; left = refl }

module _ (w S : ℕ) (f : Flash) (all_from all_to : List ℕ) (g : Flash) where
  -- none is left
  pub copying_ends : (from to : List ℕ) → Copying w S f all_from all_to g from to → length from ≡ 0 → g ≡ apply_all w f (copy_steps w f all_from all_to)
  unfolding copy_steps apply_all_in
  copying_ends [] to c e = c.left
  copying_ends (k ∷ from) to c e = absurd (omega arith)

  -- one more
  module _
      {from to rest_from rest_to : List ℕ}
      (source target : ℕ)
      (is_from : from ≡ source ∷ rest_from)
      (is_to : to ≡ target ∷ rest_to)
      (copying : Copying w S f all_from all_to g from to)
    where
      next : Copying w S f all_from all_to g (source ∷ rest_from) (target ∷ rest_to)
      next = subst (λ (l : List ℕ). Copying w S f all_from all_to g l (target ∷ rest_to)) is_from (subst (Copying w S f all_from all_to g from) is_to copying)

      pub source_below : source < S
      source_below = (first_source w S f next.sized g next.lowest source rest_from target rest_to next.ready).source_below

      pub target_below : target < S
      target_below = first_below_lem w S f next.sized g next.lowest source rest_from target rest_to next.ready

      -- the step is the one fixed before
      same_step : copy_step w g source target ≡ copy_step w f source target
      unfolding copy_step
      same_step =
          let u = next.ready.unaltered source (Memᴰ.head refl) in
          ap₂ {C = Step} (λ (s : Slot) (b : List ℕ). Step.Store target (record_in s) b) u.same_slot u.same_bytes

      pub copying_more : {h : Flash} → h ≡ apply w g (copy_step w g source target) → Copying w S f all_from all_to h rest_from rest_to
      unfolding copy_steps apply_all_in
      copying_more e =
          subst (λ (x : Flash). Copying w S f all_from all_to x rest_from rest_to) (sym (e ∙ ap (apply w g) same_step))
          (record {
            sized = next.sized;
            lowest = suc target;
            ready = ready_on w S f next.sized g next.lowest source rest_from target rest_to next.ready;
            room = let r = next.room in omega arith;
            left = next.left;
          })
