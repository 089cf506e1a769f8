-- Under the invariant recover answers 0, and fills the state with the committed versions and the highest versions mentioned.
use Rattle.std.specs.Prelude.{ℕ, ◌<◌, ◌≡◌, List, false, length}
use Rattle.std.proofs.Common.{arith, sym, ap, ◌∙◌}
use Rattle.std.proofs.Math.Path.{refl}
use Rattle.std.proofs.Math.Bool.{true}
use Rattle.bounded.specs.Limits.{Widths}
use Rattle.bounded.specs.Below.{all_below, some_below}
use Rattle.bounded.specs.Choice.{on_test}
use Rattle.bounded.specs.BelowLaws.{all_of}
use Rattle.sizes.specs.declared.Sizes.{Sizes}
use Rattle.sizes.specs.declared.Layout.TheVariants.{FiveWords}
use Rattle.record.specs.Slot.{Slot}
use Rattle.std.specs.Prelude.{None, Some}
use Rattle.record.specs.Slot.{slot_at, bytes_at, slot_sound}
use Rattle.record.specs.Flash.{Flash}
use Rattle.record.specs.FlashLaws.{SizedIn}
use Rattle.table.specs.Table.{table_sound, some_clash, has_record, has_version, used_of}
use Rattle.table.proofs.UsedLaws.{used_above_version, used_above_next}
use Rattle.table.proofs.TableLaws.{some_clash_lem, has_record_lem, has_version_lem}
use Rattle.follow.specs.Follow.{is_astray}
use Rattle.twins.specs.Twins.{twins, some_conflict}
use Rattle.twins.proofs.TwinsLaws.{twins_exactly}
use Rattle.rules.specs.Volume.{Volume}
use Rattle.rules.specs.Recover.{walk_of, committed_of, recover_answer}
use Rattle.rules.specs.laws.Volume.{Fits}
use Rattle.rules.proofs.laws.Volume.{fits_test, bytes_whole}
use Rattle.rules.proofs.laws.Recover.{twins_agree}
use Rattle.protocol.specs.View.{InSlots, NoTwins, pointing_view}
use Rattle.protocol.specs.Shared.{SharedCore, WithinUsed}
use Rattle.protocol.specs.BackPointer.{Core}
use Rattle.protocol.proofs.Walks.{none_astray}
use Rattle.protocol.proofs.Recovers.{judged, committed_found_lem}

-- every record found is at most the used version that recovery finds
pub found_within_used : (back : (used committed : ℕ) → ℕ) (S : ℕ) (t : ℕ → Slot) (bytes : ℕ → List ℕ) → WithinUsed (pointing_view back) (InSlots S t bytes) (used_of S t)
found_within_used back S t bytes =
    record {
      version_used = λ r b w. used_above_version S t w.0 r w.1 w.2;
      link_used = λ r b w. used_above_next S t w.0 r w.1 w.2;
    }

pub no_clash : (S : ℕ) (t : ℕ → Slot) → NoTwins S t → some_clash S t ≡ false
no_clash S t apart =
    on_test (some_clash S t)
    (λ e. let w = (some_clash_lem t S).0 e in
    let same = apart w.0 w.1 w.2 w.3 (let a = w.4 in let b = w.5 in omega arith) w.5 w.6 w.7 w.8 w.9 in
    absurd (let a = w.4 in omega arith))
    (λ e. e)

-- ---- by the shared clauses, for any family

module _ (back : (used committed : ℕ) → ℕ) {P S : ℕ} {t : ℕ → Slot} {bytes : ℕ → List ℕ} {comm : ℕ → ℕ} {kept : ℕ → List ℕ} (shared : SharedCore (pointing_view back) (InSlots S t bytes) comm P kept) where
  open shared use {all_sound, committed_kept}

  -- not 2
  pub table_sound_lem : table_sound P S t ≡ true
  unfolding table_sound slot_sound
  table_sound_lem = all_of (λ k. slot_sound P (t k)) S (λ k h. by k h (t k) refl)
    where
      by : (k : ℕ) → k < S → (s : Slot) → t k ≡ s → slot_sound P s ≡ true
      by k h None e = refl
      by k h (Some r) e = all_sound r (bytes k) (k, h, e, refl)

  -- not 3
  pub all_have_record : all_below P (has_record S t) ≡ true
  all_have_record =
      all_of (has_record S t) P (λ p h. let c = committed_kept p h in let k = c.1 in (has_record_lem t p S).1 (k.0, c.0, k.1, k.2, c.2.0))

  -- the committed version is there
  pub committed_there_lem : (p : ℕ) → p < P → has_version S t p (comm p) ≡ true
  committed_there_lem p h = let c = committed_kept p h in let k = c.1 in (has_version_lem t S p (comm p)).1 (k.0, c.0, k.1, k.2, c.2.0, c.2.1)

-- ---- records with a back pointer

module _ {P S : ℕ} {t : ℕ → Slot} {bytes : ℕ → List ℕ} {comm : ℕ → ℕ} {kept : ℕ → List ℕ} (core : Core (InSlots S t bytes) comm P kept) where
  -- not 4
  pub walks_end : some_below P (λ p. is_astray (walk_of P S t p).end) ≡ false
  unfolding walk_of
  walks_end = none_astray core.shared (judged core)

  -- not 14
  pub all_have_committed : all_below P (λ p. has_version S t p (committed_of P S t p)) ≡ true
  all_have_committed =
      all_of (λ p. has_version S t p (committed_of P S t p)) P (λ p h. rw (committed_found_lem core p h) (committed_there_lem (λ u c. c) core.shared p h))

-- Records of equal page and version are one, with one contents: they are twins.
pub no_conflict :
    (w S : ℕ) (f : Flash) {P : ℕ} {comm : ℕ → ℕ} {kept : ℕ → List ℕ}
    → SizedIn FiveWords w S f
    → Core (InSlots S (slot_at f.words) (bytes_at w f.contents)) comm P kept
    → some_conflict S (slot_at f.words) (twins w f) ≡ false
no_conflict w S f size core =
    twins_agree S (slot_at f.words) (twins w f)
    (λ j k a b l h ea eb p v.
    let same = core.shared.one_record a b (bytes_at w f.contents j) (bytes_at w f.contents k) (j, omega arith, ea, refl) (k, h, eb, refl) p v in
    (twins_exactly w f j k (whole j (omega arith)) (whole k h)).1 (a, ea, eb ∙ ap Some (sym same.0), same.1))
  where
    whole : (k : ℕ) → k < S → length (bytes_at w f.contents k) ≡ w
    whole k h = bytes_whole w S f size k h

-- Recover answers 0.
pub recover_accepts :
    (widths : Widths) (sizes : Sizes) (v : Volume) {comm : ℕ → ℕ} {kept : ℕ → List ℕ}
    → Fits widths sizes v
    → Core (InSlots sizes.slots (slot_at v.flash.words) (bytes_at sizes.width v.flash.contents)) comm sizes.pages kept
    → recover_answer widths sizes v ≡ 0
unfolding recover_answer
recover_accepts widths sizes v fits core =
    rw (
      recover_answer,
      fits_test widths sizes v fits,
      table_sound_lem (λ u c. c) core.shared,
      no_conflict sizes.width sizes.slots v.flash fits.flash_sized core,
      all_have_record (λ u c. c) core.shared,
      walks_end core,
      all_have_committed core,
    )
