-- The tests mean their sentences.
use Rattle.std.specs.Prelude.{ℕ, zero, suc, ◌+◌, ◌*◌, ◌<◌, ◌≡◌, refl, List, ◌⊎◌, ◌↔◌, eqb, length, get_or}
use Rattle.std.proofs.Common.{arith, ◌∙◌, inl, inr, ⊎_elim}
use Rattle.std.proofs.Math.Path.{sym}
use Rattle.std.proofs.Math.Bool.{true, false}
use borrow.Author.Tests.{lt-ltb, le-ltb, eqb-true, eq-eqb}
use Rattle.bounded.specs.Limits.{no_number}
use Rattle.bounded.specs.Choice.{never, on_test, on_lt, equal_test}
use Rattle.bounded.specs.Below.{max_below}
use Rattle.bounded.specs.BelowLaws.{all_each, max_at, some_at, some_of}
use Rattle.bounded.specs.Parts.{part}
use Rattle.bounded.specs.PartsLaws.{part_at}
use Rattle.sizes.specs.declared.Layout.{Layout}
use Rattle.sizes.specs.declared.Layout.TheVariants.{FiveWords, FourWords}
use Rattle.sizes.specs.Sizes.{stride_of, listed}
use Rattle.sizes.specs.Lists.{list_exactly}
use Rattle.record.specs.declared.Record.{Record}
use Rattle.record.specs.Slot.{Slot}
use Rattle.std.specs.Prelude.{None, Some}
use Rattle.record.specs.Slot.{decoded, blank_in, slot_in, bytes_at, slot_sound}
use Rattle.record.specs.SlotLaws.{SoundRecord, sound_exactly, slot_blank_exactly, slot_blank, slot_holds, is_blank_exactly}
use Rattle.state.specs.State.{page_of, state_at, is_written}
use Rattle.state.specs.StateLaws.{state_sound_means, number_flies, none_rests}
use Rattle.table.specs.Table.{table_sound, highest, version_in, highest_version_of, mentioned, used_of}
use Rattle.table.proofs.TableLaws.{blank_holds, highest_is, highest_held, highest_page, highest_above, highest_exists, has_record_lem}
use Rattle.table.proofs.UsedLaws.{used_above_version, used_above_next}
use Rattle.twins.proofs.TwinsLaws.{twins_exactly}
use Rattle.rules.specs.Verdict.{is_straddled, link_verdict, slot_verdict, verdict}
use Rattle.rules.specs.Simple.{simple_link_verdict, simple_slot_verdict, simple_verdict}
use Rattle.rules.proofs.laws.Volume.{fits_in_facts, fits_in_test}
use Rattle.rules.proofs.laws.Permission.{needed_exactly, may_erase_exactly}
use Rattle.rules.proofs.laws.Recover.{straddled_exactly}
use Rattle.rules.proofs.laws.Simple.{second_held, second_above, second_exists, simple_may_erase_exactly, buried_exactly}
use Rattle.rules.specs.Meanings.{word_at, SlotMeans, ArgumentsMean, SoundMeans, TableMeans, TwinsMean, Cases, SimpleCases, VerdictMeans, PermissionMeans, SecondMeans, SimplyMeans}

-- ---- slots, lengths, lists

module _ (layout : Layout) (words : List ℕ) (k : ℕ) where
  slot_blank_words : (slot_in layout words k ≡ None) ↔ ((i : ℕ) → i < stride_of layout → get_or words (stride_of layout * k + i) no_number ≡ no_number)
  unfolding slot_in
  slot_blank_words =
      let e = slot_blank_exactly layout (part (stride_of layout) k words) in (
        λ b i h. sym (part_at (stride_of layout) k words i no_number h) ∙ e.0 b i h,
        λ f. e.1 (λ i h. part_at (stride_of layout) k words i no_number h ∙ f i h),
      )

five_words_at : (words : List ℕ) (k : ℕ) → decoded FiveWords (part 5 k words) ≡ record { p = word_at 5 words k 0; v = word_at 5 words k 1; c = word_at 5 words k 2; np = word_at 5 words k 3; nv = word_at 5 words k 4 }
unfolding decoded
five_words_at words k =
    rw (part_at 5 k words 0 no_number (omega arith), part_at 5 k words 1 no_number (omega arith), part_at 5 k words 2 no_number (omega arith), part_at 5 k words 3 no_number (omega arith), part_at 5 k words 4 no_number (omega arith)) refl

four_words_at : (words : List ℕ) (k : ℕ) → decoded FourWords (part 4 k words) ≡ record { p = word_at 4 words k 0; v = word_at 4 words k 1; c = 0; np = word_at 4 words k 2; nv = word_at 4 words k 3 }
unfolding decoded
four_words_at words k =
    rw (part_at 4 k words 0 no_number (omega arith), part_at 4 k words 1 no_number (omega arith), part_at 4 k words 2 no_number (omega arith), part_at 4 k words 3 no_number (omega arith)) refl

bytes_at_lem : (w : ℕ) (contents : List ℕ) (k i : ℕ) → i < w → get_or (bytes_at w contents k) i 0 ≡ get_or contents (w * k + i) 0
unfolding bytes_at
bytes_at_lem w contents k i h = part_at w k contents i 0 h

page_at : (state : List ℕ) (p : ℕ) → state_at state p ≡ record { committed = get_or state (4 * p + 0) 0; used = get_or state (4 * p + 1) 0; next = get_or state (4 * p + 2) 0; written = get_or state (4 * p + 3) 0 }
unfolding state_at page_of
page_at state p = rw (part_at 4 p state 0 0 (omega arith), part_at 4 p state 1 0 (omega arith), part_at 4 p state 2 0 (omega arith), part_at 4 p state 3 0 (omega arith)) refl

is_listed_exactly : (list : List ℕ) (n : ℕ) → (listed list n ≡ true) ↔ ((i : ℕ) × (i < length list) × (get_or list i 0 ≡ n))
unfolding listed
is_listed_exactly list n = (
  λ e. let w = some_at (λ i. eqb (get_or list i 0) n) (length list) e in (w.0, w.1, eqb-true (get_or list w.0 0) n w.2),
  λ w. some_of (λ i. eqb (get_or list i 0) n) (length list) w.0 w.1 (eq-eqb (get_or list w.0 0) n w.2),
)

pub slot_means : SlotMeans
unfolding slot_in
slot_means =
    record {
      blank = slot_blank_words;
      other = λ layout words k.
          let ws = part (stride_of layout) k words in on_test (blank_in layout ws) (λ y. inl (slot_blank layout ws y)) (λ n. inr (slot_holds layout ws n));
      is_blank_lem = is_blank_exactly;
      five = five_words_at;
      four = four_words_at;
      bytes = λ w contents k i h. bytes_at_lem w contents k i h;
      page = page_at;
    }

pub arguments_mean : ArgumentsMean
arguments_mean = record { is_listed = is_listed_exactly; volume = λ layout widths sizes v. (fits_in_facts layout widths sizes v, fits_in_test layout widths sizes v); list = list_exactly }

-- ---- what is sound

pub sound_means : SoundMeans
unfolding table_sound slot_sound is_written
sound_means =
    record {
      one_record = sound_exactly;
      table = λ P S t. (
        λ e k h. slot P (t k) ((all_each (λ k. slot_sound P (t k)) S).0 e k h),
        λ each. (all_each (λ k. slot_sound P (t k)) S).1 (λ k h. back P (t k) (each k h)),
      );
      flight = λ s. (λ e z. never e (none_rests s z), number_flies s);
      written = λ s. equal_test s.written 1;
      state = state_sound_means;
    }
  where
    slot : (P : ℕ) (s : Slot) → slot_sound P s ≡ true → (s ≡ None) ⊎ ((r : Record) × (s ≡ Some r) × SoundRecord P r)
    slot P None e = inl refl
    slot P (Some r) e = inr (r, refl, (sound_exactly P r).0 e)

    back : (P : ℕ) (s : Slot) → (s ≡ None) ⊎ ((r : Record) × (s ≡ Some r) × SoundRecord P r) → slot_sound P s ≡ true
    back P s (inl e) = rw e
    back P s (inr w) = rw w.1 ((sound_exactly P w.0).1 w.2)

-- ---- the table

-- what a slot mentions for a page is 0, or its record's version or link
mentions : (p : ℕ) (s : Slot) (n : ℕ) → mentioned p s ≡ n → (n ≡ 0) ⊎ ((r : Record) × (s ≡ Some r) × (((r.p ≡ p) × (r.v ≡ n)) ⊎ ((r.np ≡ p) × (r.nv ≡ n))))
unfolding mentioned
mentions p None n e = inl (sym e)
mentions p (Some r) n e =
    on_test (eqb r.p p)
    (λ a. on_test (eqb r.np p)
    (λ b. let f = rw (a, b) at e in
    on_lt r.v r.nv
    (λ l. inr (r, refl, inr (eqb-true r.np p b, omega arith)))
    (λ l. inr (r, refl, inl (eqb-true r.p p a, omega arith))))
    (λ b. let f = rw (a, b) at e in inr (r, refl, inl (eqb-true r.p p a, omega arith))))
    (λ a. on_test (eqb r.np p)
    (λ b. let f = rw (a, b) at e in inr (r, refl, inr (eqb-true r.np p b, omega arith)))
    (λ b. let f = rw (a, b) at e in inl (omega arith)))

used_is : (S : ℕ) (t : ℕ → Slot) (p : ℕ) → (used_of S t p ≡ 0) ⊎ ((k : ℕ) × (r : Record) × (k < S) × (t k ≡ Some r) × (((r.p ≡ p) × (r.v ≡ used_of S t p)) ⊎ ((r.np ≡ p) × (r.nv ≡ used_of S t p))))
unfolding used_of max_below
used_is zero t p = inl refl
used_is (suc n) t p =
    let m = max_at (λ k. mentioned p (t k)) n in
    ⊎_elim
    (λ z. inl z)
    (λ w. inr (m.0, w.0, m.1, w.1, w.2))
    (mentions p (t m.0) (max_below (suc n) (λ k. mentioned p (t k))) m.2)

pub table_means : TableMeans
unfolding highest_version_of version_in
table_means =
    record {
      held = λ S t p r e. let k = highest_held t p S (highest_is t p S) e in (k.0, k.1, k.2, highest_page t p S (highest_is t p S) e, rw e);
      none_higher = λ S t p r e. highest_above t p S (highest_is t p S) e;
      none_there = λ S t p e k q h f g. let w = (highest_exists t p S).0 ((has_record_lem t p S).1 (k, q, h, f, g)) in blank_holds e w.1;
      used_above_version = used_above_version;
      used_above_next = used_above_next;
      used_reached = used_is;
    }

pub twins_mean : TwinsMean
twins_mean w f = twins_exactly w f

-- ---- recovery's three cases

module _ (S : ℕ) (t : ℕ → Slot) (p : ℕ) (J : Record) (e : highest S t p ≡ Some J) where
  cases_are : Cases S t p J
  unfolding verdict slot_verdict link_verdict
  cases_are =
      record {
        straddled = λ h w. rw (e, lt-ltb J.nv (highest_version_of S t J.np) h, (straddled_exactly S t J).1 w);
        unstraddled = λ h n. rw (e, lt-ltb J.nv (highest_version_of S t J.np) h, off (λ y. n ((straddled_exactly S t J).0 y)));
        ahead = λ h. rw (e, le-ltb J.nv (highest_version_of S t J.np) (omega arith), lt-ltb (highest_version_of S t J.np) J.nv h);
        equal = λ q. rw (e, le-ltb J.nv (highest_version_of S t J.np) (omega arith), le-ltb (highest_version_of S t J.np) J.nv (omega arith));
      }
    where
      off : (is_straddled S t J ≡ true → ⊥) → is_straddled S t J ≡ false
      off n = on_test (is_straddled S t J) (λ y. absurd (n y)) (λ z. z)

  simple_cases_are : SimpleCases S t p J
  unfolding simple_verdict simple_slot_verdict simple_link_verdict
  simple_cases_are =
      record {
        passed = λ h. rw (e, lt-ltb J.nv (highest_version_of S t J.np) h);
        ahead = λ h. rw (e, le-ltb J.nv (highest_version_of S t J.np) (omega arith), lt-ltb (highest_version_of S t J.np) J.nv h);
        equal = λ q. rw (e, le-ltb J.nv (highest_version_of S t J.np) (omega arith), le-ltb (highest_version_of S t J.np) J.nv (omega arith));
      }

pub verdict_means : VerdictMeans
verdict_means = record { cases = cases_are; simple_cases = simple_cases_are }

-- ---- what may be erased, and records without a back pointer

pub permission_means : PermissionMeans
permission_means = record { needed = needed_exactly; may_erase_lem = may_erase_exactly }

pub second_means : SecondMeans
second_means = record { is_below = second_held; none_higher = second_above; exists = second_exists }

pub simply_means : SimplyMeans
simply_means = record { may_erase_lem = simple_may_erase_exactly; would_bury_lem = buried_exactly }
