-- Laws of the page: what its lines say, and how long it is.
use Rattle.std.specs.Prelude.{ℕ, zero, suc, ◌+◌, ◌-◌, ◌*◌, ◌/◌, ◌%◌, ◌≤◌, ◌<◌, ◌≡◌, refl, Bool, false, not, ◌||◌, eqb, get_or, drop, replicate}
use Rattle.std.proofs.Common.{arith, div-add-mod', div-le_self, mod-lt, mul_comm, sym, ap, ◌∙◌, subst, length-append, ne_eqb}
use Rattle.std.proofs.Math.Path.{ap₂}
use mathlib.Core.List.{List, [], ◌∷◌, ◌++◌, map, map-append}
use Rattle.std.proofs.Math.Bool.{true}
use Rattle.std.proofs.Math.ListN.{length}
use Rattle.std.proofs.lemmas.List.{replicate-append-replicate}
use Rattle.bounded.specs.Limits.{Widths}
use Rattle.bounded.specs.Choice.{on_test, never, both_left, both_right}
use Rattle.bounded.specs.Below.{all_below, some_below, sum_below}
use Rattle.bounded.specs.Members.{count_below}
use Rattle.outcome.specs.Outcome.{◌⇒◌otherwise◌}
use Rattle.outcome.specs.OutcomeLaws.{settled_answer}
use Rattle.sizes.specs.declared.Sizes.{Sizes}
use Rattle.sizes.specs.Sizes.{sizes_ok}
use Rattle.sizes.proofs.SizesLaws.{sizes_facts}
use Rattle.text.specs.Scan.{max_number, is_digit}
use Rattle.text.specs.Print.{shown, added}
use Rattle.text.specs.PrintLaws.{decimal_room, all_put, put_ends}
use Rattle.text.specs.Lines.{onto, lines_in}
use Rattle.record.specs.Flash.{Flash}
use Rattle.record.specs.Slot.{Slot}
use Rattle.record.specs.Slot.{slot_at, holds}
use Rattle.state.specs.declared.PageState.{PageState}
use Rattle.state.specs.State.{is_set}
use Rattle.table.specs.Table.{table_sound, has_record, has_version}
use Rattle.follow.specs.Follow.{is_astray}
use Rattle.twins.specs.Twins.{twins, some_conflict}
use Rattle.rules.specs.Volume.{Volume, volume_fits}
use Rattle.rules.specs.Permission.{is_obsolete, is_exposed}
use Rattle.rules.specs.Recover.{walk_of, committed_of, recover_answer, recover_outcome}
use Rattle.upkeep.specs.Doubtful.{recovery_of}
use Rattle.fleet.specs.declared.Figures.{Figures}
use Rattle.fleet.specs.Entry.{Entry, Counted, Refused}
use Rattle.fleet.specs.Figures.{is_needed_straddler, set_pages, slots_with, figures_of, entry_of}
use Rattle.fleet.specs.Input.{sizes_at, volume_length, flash_at, is_whole, entries_if, entries_of}
use Rattle.fleet.proofs.InputLaws.{whole_facts, entries_most}
use Rattle.fleet.specs.Page.{counted, sum_of, totals, mean_whole, mean_remainder, blanks, column, figures_text, entry_text, volume_line, volume_lines, totals_line, mean_line, page_lines, as_text, van_page}
use Rattle.fleet.proofs.CellLaws.{Piece, Line, decimal_two, blank_piece, column_piece, five_pieces}
use Rattle.fleet.specs.Shown.{Cell, Empty, Number, cells_of, is_plain, amount, total, volumes_counted, volume_cells, all_cells, totals_cells, PageShown, PagesShown, longest_page, RoomEnough}
use Rattle.fleet.specs.PageLaws.{most_counted, Within, SmallEntry, AllSmall, Divided, VolumeLines}

-- ---- how large the figures are

-- the first of recover's five conditions that is met
refusal_most : (a b c d e : Bool) → (a ⇒ 1 otherwise b ⇒ 2 otherwise c ⇒ 3 otherwise d ⇒ 4 otherwise e ⇒ 14 otherwise 0) ≤ 14
refusal_most true b c d e = omega arith
refusal_most false true c d e = omega arith
refusal_most false false true d e = omega arith
refusal_most false false false true e = omega arith
refusal_most false false false false true = omega arith
refusal_most false false false false false = omega arith

recover_most : (widths : Widths) (z : Sizes) (v : Volume) → (recover_outcome widths z v).answer ≤ 14
unfolding recover_outcome recover_answer
recover_most widths z v =
    let t = slot_at v.flash.words in
    subst (λ (a : ℕ). a ≤ 14) (sym (settled_answer (recover_answer widths z v) 0 _ _ _))
    (refusal_most (not (volume_fits widths z v)) (not (table_sound z.pages z.slots t)) (some_conflict z.slots t (twins z.width v.flash) || not (all_below z.pages (has_record z.slots t)))
    (some_below z.pages (λ p. is_astray (walk_of z.pages z.slots t p).end)) (not (all_below z.pages (λ p. has_version z.slots t p (committed_of z.pages z.slots t p)))))

figures_within : (P S most : ℕ) (t : ℕ → Slot) (st : ℕ → PageState) → P ≤ most → S ≤ most → Within most (figures_of P S t st)
unfolding figures_of set_pages slots_with
figures_within P S most t st h l =
    record {
      pages_in_lem = let c = count_below (λ p. is_set (st p)) P in omega arith;
      obsolete_in = let c = count_below (λ k. holds (is_obsolete st) (t k)) S in omega arith;
      exposed_in = let c = count_below (λ k. holds (is_exposed st) (t k)) S in omega arith;
      needed_in = let c = count_below (λ k. holds (is_needed_straddler S t st) (t k)) S in omega arith;
    }

pub entry_small : (widths : Widths) (z : Sizes) (f : Flash) → sizes_ok widths z ≡ true → SmallEntry (entry_of widths z f)
unfolding entry_of recovery_of
entry_small widths z f ok =
    let b = (sizes_facts widths z ok).0 in
    on_test (eqb (recovery_of widths z f).answer 0)
    (λ e. rw e (figures_within z.pages z.slots most_counted _ _ (omega (arith, b.slots_least, b.slots_most)) b.slots_most))
    (λ e. rw e (recover_most widths z _))

pub entries_small : (widths : Widths) (n : ℕ) (input : List ℕ) → AllSmall (entries_of widths n input)
unfolding entries_of entries_if
entries_small widths zero input = tt
entries_small widths (suc n) [] = tt
entries_small widths (suc n) (b ∷ input) =
    let all = b ∷ input in
    on_test (is_whole widths all)
    (λ w. rw w (entry_small widths (sizes_at all) (flash_at all) (whole_facts widths all w).sizes_ok_lem, entries_small widths n (drop (volume_length (sizes_at all)) all)))
    (λ w. rw w ((let h : 1 ≤ 14 = omega arith in h), tt))

-- ---- what is added up

-- the first number below n, and those behind it
sum_front : (n : ℕ) (f : ℕ → ℕ) → sum_below (suc n) f ≡ f 0 + sum_below n (λ i. f (suc i))
unfolding sum_below
sum_front zero f = omega arith
sum_front (suc n) f = let e = sum_front n f in omega arith

pub total_first : (of : Figures → ℕ) (e : Entry) (entries : List Entry) → total of (e ∷ entries) ≡ amount of e + total of entries
unfolding total
total_first of e entries = sum_front (length entries) (λ i. amount of (get_or (e ∷ entries) i (Refused 0)))

sum_total : (of : Figures → ℕ) (entries : List Entry) → sum_of of (counted entries) ≡ total of entries
unfolding sum_of counted total sum_below amount
sum_total of [] = refl
sum_total of (Counted f ∷ entries) = let a = sum_total of entries in let b = total_first of (Counted f) entries in omega arith
sum_total of (Refused a ∷ entries) = let b = total_first of (Refused a) entries in let c = sum_total of entries in omega arith

count_total : (entries : List Entry) → length (counted entries) ≡ volumes_counted entries
unfolding counted volumes_counted total sum_below amount
count_total [] = refl
count_total (Counted f ∷ entries) = let a = count_total entries in let b = total_first (λ f. 1) (Counted f) entries in omega arith
count_total (Refused a ∷ entries) = let b = total_first (λ f. 1) (Refused a) entries in let c = count_total entries in omega arith

total_most : (of : Figures → ℕ) → ((f : Figures) → Within most_counted f → of f ≤ most_counted) → (entries : List Entry) → AllSmall entries → total of entries ≤ most_counted * length entries
unfolding total sum_below amount
total_most of h [] s = omega arith
total_most of h (Counted f ∷ entries) s = let a = total_first of (Counted f) entries in let b = total_most of h entries s.1 in let c = h f s.0 in omega arith
total_most of h (Refused a ∷ entries) s = let c = total_first of (Refused a) entries in let b = total_most of h entries s.1 in omega arith

-- ---- the lines

-- a number of 32 bits in 16 columns
wide_piece : (n : ℕ) → n ≤ max_number → Piece 16 (column 16 n) (Number n)
wide_piece n h = column_piece 16 n (omega (arith, decimal_room n)) h

-- three blank columns
three_blank : blanks 48 ≡ blanks 16 ++ (blanks 16 ++ blanks 16)
unfolding blanks
three_blank = refl

two_blank : blanks 32 ≡ blanks 16 ++ blanks 16
unfolding blanks
two_blank = refl

volume_shown : (number : ℕ) (e : Entry) → number < 100 → SmallEntry e → Line (volume_line number e) (volume_cells number e)
unfolding volume_line entry_text figures_text volume_cells max_number
volume_shown number (Counted f) h s =
    five_pieces (column_piece 8 number (omega (arith, decimal_two number h)) (omega arith))
    (wide_piece f.pages (omega (arith, s.pages_in_lem))) (wide_piece f.obsolete (omega (arith, s.obsolete_in))) (wide_piece f.exposed (omega (arith, s.exposed_in))) (wide_piece f.needed (omega (arith, s.needed_in)))
volume_shown number (Refused a) h s =
    rw three_blank
    (five_pieces (column_piece 8 number (omega (arith, decimal_two number h)) (omega arith)) (wide_piece a (omega arith)) (blank_piece 16) (blank_piece 16) (blank_piece 16))

-- figures that are not too large
figures_line : (f : Figures) → Within max_number f → Line (totals_line f) (Empty ∷ Number f.pages ∷ Number f.obsolete ∷ Number f.exposed ∷ Number f.needed ∷ [])
unfolding totals_line figures_text
figures_line f s = five_pieces (blank_piece 8) (wide_piece f.pages s.pages_in_lem) (wide_piece f.obsolete s.obsolete_in) (wide_piece f.exposed s.exposed_in) (wide_piece f.needed s.needed_in)

mean_shown : (sum n : ℕ) → mean_whole sum n ≤ max_number → mean_remainder sum n ≤ max_number → Line (mean_line sum n) (Empty ∷ Number (mean_whole sum n) ∷ Number (mean_remainder sum n) ∷ Empty ∷ Empty ∷ [])
unfolding mean_line
mean_shown sum n h l = rw two_blank (five_pieces (blank_piece 8) (wide_piece (mean_whole sum n) h) (wide_piece (mean_remainder sum n) l) (blank_piece 16) (blank_piece 16))

-- ---- the mean

divided : (sum n : ℕ) → Divided sum n (mean_whole sum n) (mean_remainder sum n)
unfolding mean_whole mean_remainder
divided sum zero = record { none_counted = λ e. (refl, refl); divides = λ h. absurd (omega arith); whole_most = omega arith; remainder_most = omega arith }
divided sum (suc n) =
    let e : suc n * (sum / suc n) + sum % suc n ≡ sum = ap (λ (x : ℕ). x + sum % suc n) (mul_comm (suc n) (sum / suc n)) ∙ div-add-mod' sum (suc n) in
    let r : sum % suc n < suc n = mod-lt sum (omega arith) in
    record {
      none_counted = λ z. absurd (omega arith);
      divides = λ h. (e, r);
      whole_most = div-le_self sum (suc n);
      remainder_most = omega arith;
    }

-- ---- the page

module _ {A : Type 0} (f : List ℕ → A) (a : A) where
  same_twice : (l : List (List ℕ)) (x y : List ℕ) (n : ℕ) → map f l ≡ replicate n a → f x ≡ a → f y ≡ a → map f (l ++ (x ∷ y ∷ [])) ≡ replicate (n + 2) a
  same_twice l x y n e g h =
      map-append f l (x ∷ y ∷ []) ∙ ap₂ (λ (s t : List A). s ++ t) e (ap₂ (λ (p q : A). p ∷ q ∷ []) g h) ∙ replicate-append-replicate n 2 a

-- a line of blanks and digits has no line end: it is the first line of what it stands in front of
line_first : (line rest : List ℕ) → is_plain line ≡ true → lines_in (line ++ (10 ∷ rest)) ≡ line ∷ lines_in rest
unfolding is_plain lines_in onto is_digit
line_first [] rest e = refl
line_first (b ∷ line) rest e =
    let i = line_first line rest (both_right (eqb b 32 || is_digit b) (is_plain line) e) in
    rw (ne_eqb b 10 (λ q. never (both_left (eqb b 32 || is_digit b) (is_plain line) e) (rw q)), i)

text_lines : (lines : List (List ℕ)) (n : ℕ) → map is_plain lines ≡ replicate n true → lines_in (as_text lines) ≡ lines ++ ([] ∷ [])
unfolding as_text lines_in
text_lines [] n e = refl
text_lines (line ∷ lines) zero e = absurd (let z = ap length e in omega arith)
text_lines (line ∷ lines) (suc n) e =
    let h : is_plain line ≡ true = ap (λ (l : List Bool). get_or l 0 true) e in
    let t : map is_plain lines ≡ replicate n true = ap (drop 1) e in
    line_first line (as_text lines) h ∙ ap (λ (l : List (List ℕ)). line ∷ l) (text_lines lines n t)

volume_lines_lem : (number : ℕ) (entries : List Entry) → number + length entries ≤ 100 → AllSmall entries → VolumeLines number entries
unfolding volume_lines all_cells
volume_lines_lem number [] h s = record { long = refl; plain = refl; tells = refl }
volume_lines_lem number (e ∷ entries) h s =
    let first = volume_shown number e (omega arith) s.0 in
    let rest = volume_lines_lem (suc number) entries (omega arith) s.1 in
    record {
      long = ap₂ (λ (x : ℕ) (l : List ℕ). x ∷ l) first.long rest.long;
      plain = ap₂ (λ (x : Bool) (l : List Bool). x ∷ l) first.plain rest.plain;
      tells = ap₂ (λ (x : List Cell) (l : List (List Cell)). x ∷ l) first.tells rest.tells;
    }

module _ (entries : List Entry) (few : length entries ≤ 32) (small : AllSmall entries) where
  sum_within : (of : Figures → ℕ) → ((f : Figures) → Within most_counted f → of f ≤ most_counted) → sum_of of (counted entries) ≤ 32768
  sum_within of h = let e = sum_total of entries in let m = total_most of h entries small in omega arith

  totals_within : Within max_number (totals (counted entries))
  unfolding totals max_number
  totals_within =
      record {
        pages_in_lem = omega (arith, sum_within (λ f. f.pages) (λ f w. w.pages_in_lem));
        obsolete_in = omega (arith, sum_within (λ f. f.obsolete) (λ f w. w.obsolete_in));
        exposed_in = omega (arith, sum_within (λ f. f.exposed) (λ f w. w.exposed_in));
        needed_in = omega (arith, sum_within (λ f. f.needed) (λ f w. w.needed_in));
      }

  totals_shown :
      Line (totals_line (totals (counted entries)))
      (Empty ∷ Number (total (λ f. f.pages) entries) ∷ Number (total (λ f. f.obsolete) entries) ∷ Number (total (λ f. f.exposed) entries) ∷ Number (total (λ f. f.needed) entries) ∷ [])
  unfolding totals
  totals_shown =
      let l = figures_line (totals (counted entries)) totals_within in
      record {
        long = l.long;
        plain = l.plain;
        tells = l.tells ∙ rw (sum_total (λ f. f.pages) entries, sum_total (λ f. f.obsolete) entries, sum_total (λ f. f.exposed) entries, sum_total (λ f. f.needed) entries);
      }

  mean_found : Divided (total (λ f. f.pages) entries) (volumes_counted entries) (mean_whole (totals (counted entries)).pages (length (counted entries))) (mean_remainder (totals (counted entries)).pages (length (counted entries)))
  unfolding totals
  mean_found = rw (sum_total (λ f. f.pages) entries, count_total entries) (divided (total (λ f. f.pages) entries) (volumes_counted entries))

  mean_line_shown : Line (mean_line (totals (counted entries)).pages (length (counted entries))) (Empty ∷ Number (mean_whole (totals (counted entries)).pages (length (counted entries))) ∷ Number (mean_remainder (totals (counted entries)).pages (length (counted entries))) ∷ Empty ∷ Empty ∷ [])
  unfolding max_number
  mean_line_shown =
      let m = mean_found in
      let t = total_most (λ f. f.pages) (λ f w. w.pages_in_lem) entries small in
      mean_shown (totals (counted entries)).pages (length (counted entries)) (omega (arith, m.whole_most)) (omega (arith, m.remainder_most))

  -- each line of the page
  lines_long : map length (page_lines entries) ≡ replicate (length entries + 2) 72
  unfolding page_lines
  lines_long = same_twice length 72 (volume_lines 1 entries) _ _ (length entries) (volume_lines_lem 1 entries (omega arith) small).long totals_shown.long mean_line_shown.long

  lines_plain : map is_plain (page_lines entries) ≡ replicate (length entries + 2) true
  unfolding page_lines
  lines_plain = same_twice is_plain true (volume_lines 1 entries) _ _ (length entries) (volume_lines_lem 1 entries (omega arith) small).plain totals_shown.plain mean_line_shown.plain

  pub page_shown : PageShown (as_text (page_lines entries)) entries
  unfolding page_lines totals_cells
  page_shown =
      let t = totals_shown in
      let m = mean_line_shown in
      let f = mean_found in
      record {
        lines = page_lines entries;
        lines_are = text_lines (page_lines entries) (length entries + 2) lines_plain;
        wide = lines_long;
        plain = lines_plain;
        mean = _;
        says =
            map-append cells_of (volume_lines 1 entries) _
            ∙ ap₂ (λ (a b : List (List Cell)). a ++ b) (volume_lines_lem 1 entries (omega arith) small).tells (ap₂ (λ (a b : List Cell). a ∷ b ∷ []) t.tells m.tells);
        mean_is = record { whole = _; remainder = _; cells_are = refl; none_counted = f.none_counted; divides = f.divides };
      }

pub pages_shown : (widths : Widths) → PagesShown widths
unfolding van_page
pages_shown widths input = page_shown (entries_of widths 32 input) (entries_most widths 32 input) (entries_small widths 32 input)

-- ---- how long it is

text_long : (lines : List (List ℕ)) (n : ℕ) → map length lines ≡ replicate n 72 → length (as_text lines) ≡ 73 * n
unfolding as_text
text_long [] zero e = refl
text_long [] (suc n) e = absurd (let z = ap length e in omega arith)
text_long (l ∷ lines) zero e = absurd (let z = ap length e in omega arith)
text_long (l ∷ lines) (suc n) e =
    let a = length-append l (10 ∷ as_text lines) in
    let h : length l ≡ 72 = ap (λ (x : List ℕ). get_or x 0 0) e in
    let t : map length lines ≡ replicate n 72 = ap (drop 1) e in
    let i = text_long lines n t in
    omega arith

pub page_long : (widths : Widths) (input : List ℕ) → length (van_page widths input) ≤ longest_page
unfolding van_page
page_long widths input =
    let e = text_long (page_lines (entries_of widths 32 input)) (length (entries_of widths 32 input) + 2) (lines_long (entries_of widths 32 input) (entries_most widths 32 input) (entries_small widths 32 input)) in
    let n = entries_most widths 32 input in
    omega arith

pub room_enough : (widths : Widths) → RoomEnough widths
room_enough widths input out left r h l e = let m = page_long widths input in all_put out left (van_page widths input) r (omega arith) l e

-- where it is put into such a buffer, it ends there
pub page_ends : (widths : Widths) (input out left : List ℕ) (r : ℕ) → longest_page < length out → length left ≡ length out → shown left r ≡ added out 0 (van_page widths input) → r ≤ length left
page_ends widths input out left r h l e = let m = page_long widths input in put_ends out left (van_page widths input) r (omega arith) l e
