-- A turn prints at most 20,498 bytes, so that a buffer with that much room left holds all of it.
use Rattle.std.specs.Prelude.{ℕ, zero, suc, ◌+◌, ◌*◌, ◌≤◌, ◌≡◌, List, ◌++◌, Bool, true, false, cond, eqb, length, take}
use Rattle.std.proofs.Common.{arith, sym, ◌∙◌, length-append, length-take, take_all, eq-eqb, ne_eqb}
use Rattle.bounded.specs.Limits.{Widths}
use Rattle.bounded.specs.Choice.{on_eq}
use Rattle.bounded.specs.Parts.{join_from, join_parts}
use Rattle.outcome.specs.Outcome.{Outcome}
use Rattle.outcome.specs.OutcomeLaws.{held, settled_answer}
use Rattle.sizes.specs.declared.Sizes.{Sizes}
use Rattle.text.specs.Scan.{bytes}
use Rattle.text.specs.Print.{shown, added, decimal}
use Rattle.text.specs.PrintLaws.{field_room}
use Rattle.line.specs.Line.{Said, on_format}
use Rattle.rules.specs.Volume.{Volume, volume_fits}
use Rattle.rules.specs.Format.{formatted as formatted_volume, format_answer_in, format_answer, format_outcome_in, format_outcome}
use Rattle.rules.proofs.laws.Volume.{fits_facts}
use Rattle.listing.specs.Listing.{answer_text, state_text, fields_text, page_text, list_answer, list_text}
use Rattle.dispatch.specs.Dispatch.{line_outcome}
use Rattle.report.specs.Report.{Standing, Turn, with_memory, printing, idle_turn, refused_turn, done_text, formatted, told}
use Rattle.script.specs.Memory.{in_use}
use Rattle.script.specs.Script.{volume_turn, sizes_for, in_front, line_turn, is_early, turn}

-- the most bytes that a turn prints
abbrev pub most_printed : ℕ
most_printed = 20498

module _ {A : Type 0} where
  -- what holds of both holds of the one that a test picks
  pub either_way : (b : Bool) (Q : A → Type 0) (x y : A) → Q x → Q y → Q (cond b x y)
  either_way true Q x y p q = p
  either_way false Q x y p q = q

pub answer_room : (n : ℕ) → length (answer_text n) ≤ 18
unfolding answer_text bytes
answer_room n = field_room (bytes "answer=") (bytes "\n") n

done_room : (a d : ℕ) → length (done_text a d) ≤ 34
unfolding done_text bytes
done_room a d =
    let h = field_room (bytes "answer=") (bytes " done=" ++ (decimal d ++ bytes "\n")) a in
    let k = field_room (bytes " done=") (bytes "\n") d in
    omega arith

state_room : (set : Bool) → length (state_text set) ≤ 13
unfolding state_text bytes
state_room set = either_way set (λ (l : List ℕ). length l ≤ 13) (bytes " state=set\n") (bytes " state=empty\n") (omega arith) (omega arith)

fields_room : (page version slot drawn : ℕ) (set : Bool) → length (fields_text page version slot drawn set) ≤ 80
unfolding fields_text bytes
fields_room page version slot drawn set =
    let h = state_room set in
    let d = field_room (bytes " drawn=") (state_text set) drawn in
    let c = field_room (bytes " slot=") (bytes " drawn=" ++ (decimal drawn ++ state_text set)) slot in
    let b = field_room (bytes " version=") (bytes " slot=" ++ (decimal slot ++ (bytes " drawn=" ++ (decimal drawn ++ state_text set)))) version in
    let a = field_room (bytes "page=") (bytes " version=" ++ (decimal version ++ (bytes " slot=" ++ (decimal slot ++ (bytes " drawn=" ++ (decimal drawn ++ state_text set)))))) page in
    omega arith

join_room : (most n i : ℕ) (f : ℕ → List ℕ) → ((k : ℕ) → length (f k) ≤ most) → length (join_from n i f) ≤ most * n
unfolding join_from
join_room most zero i f h = omega arith
join_room most (suc n) i f h =
    let e = length-append (f i) (join_from n (suc i) f) in
    let k = join_room most n (suc i) f h in
    let q = h i in
    let z : most * suc n ≡ most + most * n = omega arith in
    omega arith

list_room : (widths : Widths) (sizes : Sizes) (v : Volume) → sizes.pages ≤ 256 → length (list_text widths sizes v) ≤ most_printed
unfolding list_text join_parts page_text
list_room widths sizes v h =
    let j = join_room 80 sizes.pages 0 (page_text widths sizes v) (λ (k : ℕ). fields_room k _ _ _ _) in
    let a = answer_room 0 in
    let r = answer_room (list_answer widths sizes v) in
    let e = length-append (join_from sizes.pages 0 (page_text widths sizes v)) (answer_text 0) in
    either_way (eqb (list_answer widths sizes v) 0) (λ (l : List ℕ). length l ≤ most_printed) (join_from sizes.pages 0 (page_text widths sizes v) ++ answer_text 0) (answer_text (list_answer widths sizes v)) (omega arith) (omega arith)

refused_room : (s : Standing) → length (refused_turn s).prints ≤ most_printed
unfolding refused_turn bytes
refused_room s = omega arith

idle_room : (s : Standing) → length (idle_turn s).prints ≤ most_printed
unfolding idle_turn printing
idle_room s = omega arith

told_room : (widths : Widths) (s : Standing) (says : Said) (answer second : ℕ) → s.sizes.pages ≤ 256 → length (told widths s says answer second).prints ≤ most_printed
unfolding told printing formatted
told_room widths s (Said.Format z) answer second h = let k = answer_room answer in omega arith
told_room widths s (Said.Launch pages) answer second h = let k = answer_room answer in omega arith
told_room widths s (Said.Write page slot fill) answer second h = let k = done_room answer second in omega arith
told_room widths s (Said.Withdraw page) answer second h = let k = answer_room answer in omega arith
told_room widths s (Said.Erase slots) answer second h = let k = answer_room answer in omega arith
told_room widths s Said.Recover answer second h = let k = answer_room answer in omega arith
told_room widths s Said.Cut answer second h = let k = answer_room answer in omega arith
told_room widths s Said.Listing answer second h = list_room widths s.sizes s.memory h
told_room widths s Said.Malformed answer second h = refused_room s

line_room : (widths : Widths) (s : Standing) (says : Said) → s.sizes.pages ≤ 256 → length (line_turn widths s says).prints ≤ most_printed
unfolding line_turn in_front volume_turn with_memory
line_room widths s says h = told_room widths _ says _ _ h

-- A turn on a volume of at most 256 pages prints no more than that.
pub turn_room : (widths : Widths) (s : Standing) (says : Said) → s.sizes.pages ≤ 256 → length (turn widths s says).prints ≤ most_printed
unfolding turn
turn_room widths s says h =
    let Q : Turn → Type 0 = λ t. length t.prints ≤ most_printed in
    either_way s.over Q (idle_turn s) (cond (is_early s.sizes.pages says) (refused_turn s) (line_turn widths s says)) (idle_room s)
    (either_way (is_early s.sizes.pages says) Q (refused_turn s) (line_turn widths s says) (refused_room s) (line_room widths s says h))

-- So nothing is left out where the buffer has so much room.
pub all_shown : (widths : Widths) (s : Standing) (says : Said) (out : List ℕ) (at : ℕ) → s.sizes.pages ≤ 256 → at + most_printed ≤ length out → added out at (turn widths s says).prints ≡ shown out at ++ (turn widths s says).prints
unfolding added shown
all_shown widths s says out at h room =
    let t = turn_room widths s says h in
    let e = length-append (take at out) (turn widths s says).prints in
    let k = length-take at out in
    take_all (length out) (take at out ++ (turn widths s says).prints) (omega arith)

-- A run never has a volume of more than 256 pages: only an accepted format gives it another.
format_pages : (widths : Widths) (sizes : Sizes) (v : Volume) → (format_outcome widths sizes v).answer ≡ 0 → sizes.pages ≤ 256
unfolding format_outcome_in format_answer_in
format_pages widths sizes v e =
    let a = held (volume_fits widths sizes v) _ _ (sym (settled_answer (format_answer widths sizes v) 0 0 v (formatted_volume sizes)) ∙ e) in
    (fits_facts widths sizes v a.0).bounds.pages_most

line_pages : (widths : Widths) (s : Standing) (says : Said) → s.sizes.pages ≤ 256 → (line_turn widths s says).leaves.sizes.pages ≤ 256
unfolding line_turn sizes_for on_format in_front volume_turn line_outcome told printing formatted refused_turn with_memory
line_pages widths s (Said.Format z) h =
    let v = in_use z s.memory in
    let o : Outcome Volume = format_outcome widths z v in
    on_eq o.answer 0
    (λ (e : o.answer ≡ 0). let q : eqb o.answer 0 ≡ true = eq-eqb _ _ e in rw q (format_pages widths z v e))
    (λ (d : ¬ (o.answer ≡ 0)). let q : eqb o.answer 0 ≡ false = ne_eqb _ _ d in rw q h)
line_pages widths s (Said.Launch pages) h = h
line_pages widths s (Said.Write page slot fill) h = h
line_pages widths s (Said.Withdraw page) h = h
line_pages widths s (Said.Erase slots) h = h
line_pages widths s Said.Recover h = h
line_pages widths s Said.Cut h = h
line_pages widths s Said.Listing h = h
line_pages widths s Said.Malformed h = h

pub turn_pages : (widths : Widths) (s : Standing) (says : Said) → s.sizes.pages ≤ 256 → (turn widths s says).leaves.sizes.pages ≤ 256
unfolding turn idle_turn printing refused_turn
turn_pages widths s says h =
    let Q : Turn → Type 0 = λ t. t.leaves.sizes.pages ≤ 256 in
    either_way s.over Q (idle_turn s) (cond (is_early s.sizes.pages says) (refused_turn s) (line_turn widths s says)) h
    (either_way (is_early s.sizes.pages says) Q (refused_turn s) (line_turn widths s says) h (line_pages widths s says h))
