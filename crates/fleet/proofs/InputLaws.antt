-- Laws of the reading: a volume is read as it was written, one cut short or with wrong sizes ends the reading, and the bytes that are read decide.
use Rattle.std.specs.Prelude.{ℕ, zero, suc, ◌+◌, ◌-◌, ◌*◌, ◌/◌, ◌%◌, ◌^◌, ◌≤◌, ◌<◌, ◌≡◌, ◌↔◌, ◌⊎◌, Bool, true, false, not, ◌&&◌, ltb, leb, eqb, take, drop}
use Rattle.std.proofs.Common.{arith, ap₂, ◌∙◌, inl, inr, take-append-drop, take-add}
use Rattle.std.proofs.Math.Path.{refl, sym, ap}
use mathlib.Core.List.{List, [], ◌∷◌, ◌++◌, append-nil, append_assoc}
use Rattle.std.proofs.Math.ListN.{length, get_or, length-append, length-drop}
use Rattle.std.proofs.Math.Seq.{take-length, take-append-le, drop-append-add, take_at, drop_at, length-take-le}
use Rattle.std.proofs.lemmas.List.{drop-append-le}
use borrow.Author.Tests.{le-leb, lt-leb, leb-true, eq-eqb, ne_eqb, lt-ltb, le-ltb, ltb-false}
use Rattle.bounded.specs.Limits.{Widths, two_widths}
use Rattle.bounded.specs.Choice.{on_lt, on_eq, on_test, never, both, both_left, both_right}
use Rattle.bounded.specs.Parts.{part, join_parts}
use Rattle.bounded.specs.PartsLaws.{length_join_parts, part_join_parts}
use Rattle.bounded.specs.Tabulate.{tabulate, tabulated, tabulate_cong}
use Rattle.sizes.specs.declared.Sizes.{Sizes}
use Rattle.sizes.specs.Sizes.{sizes_ok}
use Rattle.sizes.specs.SizesLaws.{SizesFacts}
use Rattle.sizes.proofs.SizesLaws.{sizes_facts, two_widths_exactly}
use Rattle.record.specs.Flash.{Flash, flash}
use Rattle.fleet.specs.Entry.{Entry, Refused}
use Rattle.fleet.specs.Figures.{entry_of}
use Rattle.fleet.specs.Input.{word_of, word_at, sizes_at, table_end, volume_length, flash_at, sizes_taken, is_whole, entries_if, entries_of}
use Rattle.fleet.specs.Page.{van_page, page_lines, as_text}
use Rattle.fleet.specs.Shown.{word_bytes, sizes_bytes, volume_bytes, SizesIn32, RightSizes, Written, ReadingShown, announced_by, bytes_read, EnoughRead}
use Rattle.fleet.specs.InputLaws.{WholeFacts, longest_volume}

-- ---- the front of an input

-- a part that ends in the front
pub part_front : (w i : ℕ) (xs ys : List ℕ) → w * i + w ≤ length xs → part w i (xs ++ ys) ≡ part w i xs
unfolding part
part_front w i xs ys h =
    ap (take w) (drop-append-le (w * i) xs ys (omega arith)) ∙ take-append-le w (drop (w * i) xs) ys (omega (arith, length-drop (w * i) xs))

module _ (xs ys : List ℕ) where
  pub word_front : (i : ℕ) → 4 * i + 4 ≤ length xs → word_at (xs ++ ys) i ≡ word_at xs i
  unfolding word_at
  word_front i h = ap word_of (part_front 4 i xs ys h)

  pub sizes_front : 12 ≤ length xs → sizes_at (xs ++ ys) ≡ sizes_at xs
  unfolding sizes_at
  sizes_front h = rw (word_front 0 (omega arith), word_front 1 (omega arith), word_front 2 (omega arith))

  pub flash_front : (z : Sizes) → sizes_at xs ≡ z → volume_length z ≤ length xs → flash_at (xs ++ ys) ≡ flash_at xs
  unfolding flash_at volume_length table_end
  flash_front z e h =
      let s : sizes_at (xs ++ ys) ≡ sizes_at xs = sizes_front (omega arith) in
      rw (s, e)
      (ap₂ flash
      (tabulate_cong (5 * z.slots) _ _ (λ i b. word_front (3 + i) (omega arith)))
      (ap (take (z.width * z.slots)) (drop-append-le (table_end z) xs ys (omega arith)) ∙ take-append-le (z.width * z.slots) (drop (table_end z) xs) ys (omega (arith, length-drop (table_end z) xs))))

-- ---- one volume

pub whole_facts : (widths : Widths) (input : List ℕ) → is_whole widths input ≡ true → WholeFacts widths input
unfolding is_whole sizes_taken volume_length table_end
whole_facts widths input e =
    let z = sizes_at input in
    let a = leb 12 (length input) in
    let b = sizes_taken widths z in
    let d = leb (volume_length z) (length input) in
    let r = both_right a (b && d) e in
    let right = both_left b d r in
    let ok = both_left (sizes_ok widths z) _ right in
    let there = leb-true (volume_length z) (length input) (both_right b d r) in
    let most = (sizes_facts widths z ok).0.slots_most in
    record {
      header = leb-true 12 (length input) (both_left a (b && d) e);
      taken = right;
      sizes_ok_lem = ok;
      all_there = there;
      words_there = omega arith;
      words_most = omega arith;
    }

module _ (widths : Widths) (n : ℕ) where
  pub entries_some : (input : List ℕ) → 0 < length input
      → entries_of widths (suc n) input ≡ entries_if (is_whole widths input) (entry_of widths (sizes_at input) (flash_at input)) (entries_of widths n (drop (volume_length (sizes_at input)) input))
  unfolding entries_of
  entries_some [] h = absurd (omega arith)
  entries_some (b ∷ input) h = refl

  pub entries_broken : (input : List ℕ) → 0 < length input → is_whole widths input ≡ false → entries_of widths (suc n) input ≡ Refused 1 ∷ []
  unfolding entries_if
  entries_broken input h e = entries_some input h ∙ rw e

  pub entries_whole : (input : List ℕ) → is_whole widths input ≡ true
      → entries_of widths (suc n) input ≡ entry_of widths (sizes_at input) (flash_at input) ∷ entries_of widths n (drop (volume_length (sizes_at input)) input)
  unfolding entries_if
  entries_whole input e = let h = (whole_facts widths input e).header in entries_some input (omega arith) ∙ rw e

module _ (widths : Widths) (input : List ℕ) where
  -- what makes a volume whole
  pub whole : 12 ≤ length input → sizes_taken widths (sizes_at input) ≡ true → volume_length (sizes_at input) ≤ length input → is_whole widths input ≡ true
  unfolding is_whole
  whole a b c = rw (le-leb 12 (length input) a, b, le-leb (volume_length (sizes_at input)) (length input) c)

  -- what breaks it
  pub broken_early : length input < 12 → is_whole widths input ≡ false
  unfolding is_whole
  broken_early h = rw (lt-leb 12 (length input) h)

  pub broken_sizes : 12 ≤ length input → sizes_taken widths (sizes_at input) ≡ false → is_whole widths input ≡ false
  unfolding is_whole
  broken_sizes a b = rw (le-leb 12 (length input) a, b)

  pub broken_short : 12 ≤ length input → sizes_taken widths (sizes_at input) ≡ true → length input < volume_length (sizes_at input) → is_whole widths input ≡ false
  unfolding is_whole
  broken_short a b c = rw (le-leb 12 (length input) a, b, lt-leb (volume_length (sizes_at input)) (length input) c)

pub entries_most : (widths : Widths) (n : ℕ) (input : List ℕ) → length (entries_of widths n input) ≤ n
unfolding entries_of entries_if
entries_most widths zero input = omega arith
entries_most widths (suc n) [] = omega arith
entries_most widths (suc n) (b ∷ input) = by (is_whole widths (b ∷ input)) _ _ (entries_most widths n (drop (volume_length (sizes_at (b ∷ input))) (b ∷ input)))
  where
    by : (t : Bool) (first : Entry) (rest : List Entry) → length rest ≤ n → length (entries_if t first rest) ≤ suc n
    by true first rest h = omega arith
    by false first rest h = omega arith

-- ---- a volume that was written

pub word_back : (n : ℕ) → n < 2 ^ 32 → word_of (word_bytes n) ≡ n
unfolding word_of word_bytes
word_back n h =
    let a : n / 256 / 256 ≡ n / 65536 = omega arith in
    let b : n / 65536 / 256 ≡ n / 16777216 = omega arith in
    let c : n / 16777216 % 256 ≡ n / 16777216 = omega arith in
    rw c (low n (n / 256) (n / 65536) (n / 16777216) (omega arith) (omega arith) (omega arith))
  where
    low : (n q s t : ℕ) → n ≡ 256 * q + n % 256 → q ≡ 256 * s + q % 256 → s ≡ 256 * t + s % 256 → n % 256 + 256 * (q % 256 + 256 * (s % 256 + 256 * t)) ≡ n
    low n q s t d e f = omega arith

length_sizes : (z : Sizes) → length (sizes_bytes z) ≡ 12
unfolding sizes_bytes word_bytes
length_sizes z = refl

pub sizes_back : (z : Sizes) → SizesIn32 z → (rest : List ℕ) → sizes_at (sizes_bytes z ++ rest) ≡ z
unfolding sizes_at word_at part sizes_bytes word_bytes
sizes_back z h rest = rw (word_back z.pages h.pages_in_lem, word_back z.slots h.slots_in_lem, word_back z.width h.width_in)

-- the words as bytes
abbrev table_bytes : Sizes → Flash → List ℕ
table_bytes z f = join_parts (5 * z.slots) (λ i. word_bytes (get_or f.words i 0))

length_table : (z : Sizes) (f : Flash) → length (table_bytes z f) ≡ 4 * (5 * z.slots)
unfolding word_bytes
length_table z f = length_join_parts 4 (5 * z.slots) (λ i. word_bytes (get_or f.words i 0)) (λ i. refl)

-- a word of 32 bits behind 12 bytes
word_behind : (xs ys : List ℕ) → length xs ≡ 12 → (i : ℕ) → word_at (xs ++ ys) (3 + i) ≡ word_at ys i
unfolding word_at part
word_behind xs ys e i =
    let q : 4 * (3 + i) ≡ length xs + 4 * i = omega arith in
    rw q (ap (λ (l : List ℕ). word_of (take 4 l)) (drop-append-add xs ys (4 * i)))

-- sizes are taken exactly where they are right
pub taken_right : (widths : Widths) (z : Sizes) → (sizes_taken widths z ≡ true) ↔ RightSizes widths z
unfolding sizes_taken
taken_right widths z = (
  λ e. record {
    sizes_ok_lem = both_left (sizes_ok widths z) _ e;
    wide_few = λ w. few (eq-eqb z.width 64 w) (ltb 512 z.slots) refl (both_right (sizes_ok widths z) (not (eqb z.width 64 && ltb 512 z.slots)) e);
  },
  λ r. both r.sizes_ok_lem
      (on_eq z.width 64
      (λ w. rw (eq-eqb z.width 64 w, le-ltb 512 z.slots (r.wide_few w)))
      (λ d. rw (ne_eqb z.width 64 d))),
)
  where
    few : eqb z.width 64 ≡ true → (b : Bool) → b ≡ ltb 512 z.slots → not (eqb z.width 64 && b) ≡ true → z.slots ≤ 512
    few w true q e = absurd (never (rw w at e) refl)
    few w false q e = ltb-false 512 z.slots (sym q)

module _ (widths : Widths) (z : Sizes) (f : Flash) (w : Written widths z f) where
  taken : sizes_taken widths z ≡ true
  taken = (taken_right widths z).1 w.right

  taken_facts : SizesFacts z.pages z.slots
  taken_facts = (sizes_facts widths z w.right.sizes_ok_lem).0

  in_32 : SizesIn32 z
  in_32 = let b = taken_facts in record { pages_in_lem = omega (arith, b.pages_most); slots_in_lem = omega (arith, b.slots_most); width_in = w.width_in }

  pub length_volume : length (volume_bytes z f) ≡ volume_length z
  unfolding volume_bytes volume_length table_end
  length_volume =
      let a = length-append (sizes_bytes z) (table_bytes z f ++ f.contents) in
      let b = length-append (table_bytes z f) f.contents in
      omega (arith, length_sizes z, length_table z f, w.contents_sized)

  -- its bytes, with more behind them
  spread : (rest : List ℕ) → volume_bytes z f ++ rest ≡ sizes_bytes z ++ (table_bytes z f ++ (f.contents ++ rest))
  unfolding volume_bytes
  spread rest = append_assoc (sizes_bytes z) (table_bytes z f ++ f.contents) rest ∙ ap (λ (l : List ℕ). sizes_bytes z ++ l) (append_assoc (table_bytes z f) f.contents rest)

  pub volume_sizes : (rest : List ℕ) → sizes_at (volume_bytes z f ++ rest) ≡ z
  volume_sizes rest = ap sizes_at (spread rest) ∙ sizes_back z in_32 (table_bytes z f ++ (f.contents ++ rest))

  words_back : (rest : List ℕ) → tabulate (5 * z.slots) (λ i. word_at (volume_bytes z f ++ rest) (3 + i)) ≡ f.words
  unfolding word_at word_bytes
  words_back rest = sym (tabulated (5 * z.slots) _ f.words w.words_sized (λ i b. sym (at i b)))
    where
      at : (i : ℕ) → i < 5 * z.slots → word_at (volume_bytes z f ++ rest) (3 + i) ≡ get_or f.words i 0
      at i b =
          let t = table_bytes z f in
          ap (λ (l : List ℕ). word_at l (3 + i)) (spread rest)
          ∙ word_behind (sizes_bytes z) (t ++ (f.contents ++ rest)) (length_sizes z) i
          ∙ word_front t (f.contents ++ rest) i (omega (arith, length_table z f))
          ∙ ap word_of (part_join_parts 4 (5 * z.slots) i (λ j. word_bytes (get_or f.words j 0)) (λ j. refl) b)
          ∙ word_back (get_or f.words i 0) (w.words_in i b)

  contents_back : (rest : List ℕ) → take (z.width * z.slots) (drop (table_end z) (volume_bytes z f ++ rest)) ≡ f.contents
  unfolding table_end
  contents_back rest =
      let t = table_bytes z f in
      let q : 12 + 20 * z.slots ≡ length (sizes_bytes z) + length t = omega (arith, length_sizes z, length_table z f) in
      rw (q, spread rest)
      (ap (take (z.width * z.slots)) (drop-append-add (sizes_bytes z) (t ++ (f.contents ++ rest)) (length t) ∙ drop_at t (f.contents ++ rest) (length t) refl)
      ∙ take_at f.contents rest (z.width * z.slots) w.contents_sized)

  pub volume_flash : (rest : List ℕ) → flash_at (volume_bytes z f ++ rest) ≡ f
  unfolding flash_at
  volume_flash rest = rw (volume_sizes rest) (ap₂ flash (words_back rest) (contents_back rest))

  pub volume_whole : (rest : List ℕ) → is_whole widths (volume_bytes z f ++ rest) ≡ true
  unfolding volume_length table_end
  volume_whole rest =
      let e = volume_sizes rest in
      let l = length-append (volume_bytes z f) rest in
      let v = length_volume in
      whole widths (volume_bytes z f ++ rest) (omega arith) (rw e taken) (rw e (omega arith))

  pub volume_read : (n : ℕ) (rest : List ℕ) → entries_of widths (suc n) (volume_bytes z f ++ rest) ≡ entry_of widths z f ∷ entries_of widths n rest
  volume_read n rest =
      entries_whole widths n (volume_bytes z f ++ rest) (volume_whole rest)
      ∙ rw (volume_sizes rest, volume_flash rest) (ap (λ (l : List ℕ). entry_of widths z f ∷ entries_of widths n l) (drop_at (volume_bytes z f) rest (volume_length z) length_volume))

  -- cut at any byte
  pub volume_cut : (n k : ℕ) → 0 < k → k < length (volume_bytes z f) → entries_of widths (suc n) (take k (volume_bytes z f)) ≡ Refused 1 ∷ []
  unfolding volume_length table_end
  volume_cut n k a b =
      let bytes = volume_bytes z f in
      let l = length-take-le k bytes (omega arith) in
      entries_broken widths n (take k bytes) (omega arith)
      (on_lt k 12
      (λ h. broken_early widths (take k bytes) (omega arith))
      (λ h.
      let e : sizes_at (take k bytes) ≡ z = sym (sizes_front (take k bytes) (drop k bytes) (omega arith)) ∙ ap sizes_at (take-append-drop k bytes) ∙ ap sizes_at (sym (append-nil bytes)) ∙ volume_sizes [] in
      let v = length_volume in
      broken_short widths (take k bytes) (omega arith) (rw e taken) (rw e (omega arith))))

-- wrong sizes, whatever is behind them
sizes_wrong : (widths : Widths) (z : Sizes) → SizesIn32 z → ¬ RightSizes widths z → (n : ℕ) (rest : List ℕ) → entries_of widths (suc n) (sizes_bytes z ++ rest) ≡ Refused 1 ∷ []
sizes_wrong widths z h e n rest =
    let l = length-append (sizes_bytes z) rest in
    let s = length_sizes z in
    entries_broken widths n (sizes_bytes z ++ rest) (omega arith) (broken_sizes widths (sizes_bytes z ++ rest) (omega arith) (rw (sizes_back z h rest) (on_test (sizes_taken widths z) (λ t. absurd (e ((taken_right widths z).0 t))) (λ t. t))))

no_volume : (widths : Widths) (n : ℕ) → entries_of widths n [] ≡ []
unfolding entries_of
no_volume widths zero = refl
no_volume widths (suc n) = refl

pub reading_shown : (widths : Widths) → ReadingShown widths
unfolding entries_of
reading_shown widths =
    record {
      reads = volume_read widths;
      ends = no_volume widths;
      cut_short = volume_cut widths;
      cut_early = λ input a b n. entries_broken widths n input a (broken_early widths input b);
      wrong_sizes_lem = sizes_wrong widths;
      no_more = λ input. refl;
      at_most = entries_most widths;
    }

-- ---- how many bytes decide

pub volume_most : (z : Sizes) → sizes_taken two_widths z ≡ true → (12 ≤ volume_length z) × (volume_length z ≤ longest_volume)
unfolding volume_length table_end
volume_most z e =
    let r = (taken_right two_widths z).0 e in
    let b = sizes_facts two_widths z r.sizes_ok_lem in
    by b.0.slots_most r.wide_few ((two_widths_exactly z.width).0 b.1)
  where
    by : z.slots ≤ 1024 → (z.width ≡ 64 → z.slots ≤ 512) → (z.width ≡ 32) ⊎ (z.width ≡ 64) → (12 ≤ 12 + 20 * z.slots + z.width * z.slots) × (12 + 20 * z.slots + z.width * z.slots ≤ 53260)
    by s few (inl w) = rw w (omega arith, omega arith)
    by s few (inr w) = let h = few w in rw w (omega arith, omega arith)

module _ (input : List ℕ) where
  pub announced_right : sizes_taken two_widths (sizes_at input) ≡ true → announced_by two_widths input ≡ volume_length (sizes_at input)
  unfolding announced_by
  announced_right t = rw t

  pub announced_wrong : sizes_taken two_widths (sizes_at input) ≡ false → announced_by two_widths input ≡ 12
  unfolding announced_by
  announced_wrong t = rw t

  pub announced_bounds : (12 ≤ announced_by two_widths input) × (announced_by two_widths input ≤ longest_volume)
  announced_bounds =
      on_test (sizes_taken two_widths (sizes_at input))
      (λ t. rw (announced_right t) (volume_most (sizes_at input) t))
      (λ t. rw (announced_wrong t) ((let h : 12 ≤ 12 = omega arith in h), (let h : 12 ≤ 53260 = omega arith in h)))

  module _ (n : ℕ) where
    -- all of what is cut short
    read_short : length input < announced_by two_widths input → bytes_read two_widths (suc n) input ≡ length input
    unfolding bytes_read
    read_short h =
        on_lt (length input) 12
        (λ l. rw (lt-ltb (length input) 12 l))
        (λ l. rw (le-ltb (length input) 12 l, lt-ltb (length input) (announced_by two_widths input) h))

    read_wrong : 12 ≤ length input → sizes_taken two_widths (sizes_at input) ≡ false → bytes_read two_widths (suc n) input ≡ 12
    unfolding bytes_read
    read_wrong h t = let a = announced_wrong t in rw (a, le-ltb (length input) 12 h, t)

    read_whole :
        sizes_taken two_widths (sizes_at input) ≡ true → volume_length (sizes_at input) ≤ length input
        → bytes_read two_widths (suc n) input ≡ volume_length (sizes_at input) + bytes_read two_widths n (drop (volume_length (sizes_at input)) input)
    unfolding bytes_read
    read_whole t h =
        let a = announced_right t in
        let m = volume_most (sizes_at input) t in
        rw (a, le-ltb (length input) 12 (omega arith), le-ltb (length input) (volume_length (sizes_at input)) h, t)

-- each of the three: what is cut short (by its sizes, or in them), wrong sizes, and a whole volume
on_read :
    {C : Type 0} (input : List ℕ)
    → (length input < announced_by two_widths input → C)
    → (12 ≤ length input → sizes_taken two_widths (sizes_at input) ≡ false → C)
    → (sizes_taken two_widths (sizes_at input) ≡ true → volume_length (sizes_at input) ≤ length input → C)
    → C
on_read input f g h =
    on_lt (length input) (announced_by two_widths input) f
    (λ l. on_test (sizes_taken two_widths (sizes_at input))
    (λ t. h t (let a = announced_right input t in omega arith))
    (λ t. g (let a = announced_wrong input t in omega arith) t))

read_most : (n : ℕ) (input : List ℕ) → bytes_read two_widths n input ≤ longest_volume * n
unfolding bytes_read
read_most zero input = omega arith
read_most (suc n) input =
    let b = announced_bounds input in
    on_read input
    (λ h. rw (read_short input n h) (omega arith))
    (λ h t. rw (read_wrong input n h t) (omega arith))
    (λ t h.
    let a = announced_right input t in
    let i = read_most n (drop (volume_length (sizes_at input)) input) in
    rw (read_whole input n t h) (omega arith))

-- of a whole volume as many bytes as it has, and behind it as many as decide
whole_decides :
    (n : ℕ) (input : List ℕ) (v k : ℕ) → volume_length (sizes_at input) ≡ v → sizes_taken two_widths (sizes_at input) ≡ true → v ≤ length input
    → entries_of two_widths n (take k (drop v input)) ≡ entries_of two_widths n (drop v input)
    → entries_of two_widths (suc n) (take (v + k) input) ≡ entries_of two_widths (suc n) input
whole_decides n input v k e t h d =
    let front = take v input in
    let behind = take k (drop v input) in
    let l = length-take-le v input h in
    let m = volume_most (sizes_at input) t in
    let s : sizes_at front ≡ sizes_at input = sym (sizes_front front (drop v input) (omega arith)) ∙ ap sizes_at (take-append-drop v input) in
    let f : flash_at front ≡ flash_at input = sym (flash_front front (drop v input) (sizes_at input) s (omega arith)) ∙ ap flash_at (take-append-drop v input) in
    let s2 : sizes_at (front ++ behind) ≡ sizes_at input = sizes_front front behind (omega arith) ∙ s in
    let f2 : flash_at (front ++ behind) ≡ flash_at input = flash_front front behind (sizes_at input) s (omega arith) ∙ f in
    let n2 = length-append front behind in
    rw (take-add v k input)
    (entries_whole two_widths n (front ++ behind) (whole two_widths (front ++ behind) (omega arith) (rw s2 t) (rw s2 (omega arith)))
    ∙ rw (s2, f2, e, drop_at front behind v l, d)
    (sym (entries_whole two_widths n input (whole two_widths input (omega arith) t (omega arith)) ∙ rw e)))

read_decides : (n : ℕ) (input : List ℕ) → entries_of two_widths n (take (bytes_read two_widths n input) input) ≡ entries_of two_widths n input
unfolding entries_of
read_decides zero input = refl
read_decides (suc n) input =
    on_read input
    (λ h. rw (read_short input n h) (ap (entries_of two_widths (suc n)) (take-length input)))
    (λ h t.
    let l = length-take-le 12 input h in
    let s : sizes_at (take 12 input) ≡ sizes_at input = sym (sizes_front (take 12 input) (drop 12 input) (omega arith)) ∙ ap sizes_at (take-append-drop 12 input) in
    rw (read_wrong input n h t)
    (entries_broken two_widths n (take 12 input) (omega arith) (broken_sizes two_widths (take 12 input) (omega arith) (rw s t))
    ∙ sym (entries_broken two_widths n input (omega arith) (broken_sizes two_widths input h t))))
    (λ t h.
    let v = volume_length (sizes_at input) in
    rw (read_whole input n t h) (whole_decides n input v (bytes_read two_widths n (drop v input)) refl t h (read_decides n (drop v input))))

pub enough_read : EnoughRead
unfolding van_page
enough_read =
    record {
      decide = λ input. ap (λ (l : List Entry). as_text (page_lines l)) (read_decides 32 input);
      most_read = λ input. let m = read_most 32 input in omega arith;
    }
