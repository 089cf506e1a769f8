-- Laws of a list's answer and text.
use Prim.Native.Nat.{ℕ, zero, suc, ◌+◌, ◌*◌, ◌≤◌, ◌<◌}
use native.Mathlib.Omega.{arith}
use Rattle.std.proofs.Common.{add-one, ◌∙◌}
use Rattle.std.specs.Prelude.{◌≡◌, Bool, ◌&&◌, ltb, length, Result, Ok, Err}
use Rattle.std.specs.Result.{result_unwrap_or}
use Rattle.std.proofs.Math.Path.{refl, sym, ap}
use mathlib.Core.List.{List}
use Rattle.std.proofs.Math.Bool.{true}
use Rattle.std.proofs.Math.Dec.{eqb}
use Rattle.std.proofs.Math.ListN.{replicate}
use Rattle.std.proofs.lemmas.List.{length-replicate}
use borrow.Author.Tests.{eq-eqb, ne_eqb, ltb-true}
use Rattle.bounded.specs.Limits.{Widths}
use Rattle.bounded.specs.Choice.{on_eq, on_lt, both, both_left, same_test}
use Rattle.bounded.specs.Parts.{join_from, join_parts}
use Rattle.bounded.specs.PartsLaws.{part_inside, join_from_more}
use Rattle.outcome.specs.Outcome.{Outcome}
use Rattle.outcome.specs.OutcomeLaws.{held, settled_answer, settled_done}
use Rattle.outcome.specs.Chain.{first_of, both_pass}
use Rattle.outcome.specs.declared.Refusal.{Refusal}
use Rattle.outcome.specs.Result.{outcome_by}
use Rattle.sizes.specs.declared.Layout.TheVariants.{FiveWords}
use Rattle.sizes.specs.declared.Sizes.{Sizes}
use Rattle.text.specs.declared.print.Printout.{Printout}
use Rattle.text.specs.Print.{shown, added}
use Rattle.text.specs.Puts.{Puts}
use Rattle.text.specs.PrintLaws.{added_next}
use Rattle.record.specs.Slot.{bytes_at}
use Rattle.bits.specs.Bits.{count_outcome}
use Rattle.table.specs.Table.{has_version}
use Rattle.rules.specs.Volume.{Volume, volume_fits}
use Rattle.rules.specs.Read.{read_slot_in, read_slot, read_answer, read_outcome_in}
use Rattle.rules.proofs.laws.Volume.{fits_facts}
use Rattle.rules.specs.laws.Chains.{judged, read_own}
use Rattle.rules.proofs.laws.Chains.{judged_passed, read_chain}
use Rattle.listing.specs.Listing.{answer_text, page_read, drawn_of, page_text, first_refusal, list_answer, list_text}

-- the second number that a result says
pub second_or : (given : Result ℕ Refusal) → result_unwrap_or given 0 ≡ (outcome_by {B = Unit {0}} 0 given tt).second
second_or (Ok second) = refl
second_or (Err refusal) = refl

-- the first of some answers that is not 0
module _ (answers : ℕ → ℕ) where
  pub none_refused : first_refusal 0 answers ≡ 0
  unfolding first_refusal
  none_refused = refl

  pub none_more : (n answer : ℕ) → first_refusal n answers ≡ 0 → answer ≡ answers n → answer ≡ 0 → first_refusal (n + 1) answers ≡ 0
  unfolding first_refusal
  none_more n answer e q z = rw (add-one n, eq-eqb (first_refusal n answers) 0 e) (sym q ∙ z)

  pub first_found : (n page answer : ℕ) → first_refusal page answers ≡ 0 → answer ≡ answers page → ¬ (answer ≡ 0) → page < n → answer ≡ first_refusal n answers
  unfolding first_refusal
  first_found zero page answer e q d h = absurd (omega arith)
  first_found (suc n) page answer e q d h =
      on_lt page n
      (λ (l : page < n). let k = first_found n page answer e q d l in rw (ne_eqb (first_refusal n answers) 0 (λ z. d (k ∙ z))) k)
      (λ (l : n ≤ page). let k : n ≡ page = omega arith in rw (k, eq-eqb (first_refusal page answers) 0 e) q)

  pub all_accepted : (n page : ℕ) → first_refusal n answers ≡ 0 → page < n → answers page ≡ 0
  unfolding first_refusal
  all_accepted zero page e h = absurd (omega arith)
  all_accepted (suc n) page e h =
      on_eq (first_refusal n answers) 0
      (λ z. on_lt page n (all_accepted n page z) (λ (q : n ≤ page). let k : page ≡ n = omega arith in rw k (rw (eq-eqb (first_refusal n answers) 0 z) at e)))
      (λ d. absurd (d (rw (ne_eqb (first_refusal n answers) 0 d) at e)))

-- one text more, behind those joined
pub parts_next :
    (f : ℕ → List ℕ) (out out₁ text : List ℕ) (at at₁ n : ℕ) → shown out₁ at₁ ≡ added out at (join_parts n f) → length out₁ ≡ length out
    → text ≡ added out₁ at₁ (f n) → text ≡ added out at (join_parts (n + 1) f)
unfolding join_parts
parts_next f out out₁ text at at₁ n e l q =
    q ∙ added_next out out₁ at at₁ (join_from n 0 f) (f n) e l ∙ ap (added out at) (rw (add-one n) (sym (join_from_more f n 0 n (omega arith))))

pub puts_parts : (f : ℕ → List ℕ) (old next new : Printout) (n : ℕ) → Puts old next (join_parts n f) → Puts next new (f n) → Puts old new (join_parts (n + 1) f)
puts_parts f old next new n p q =
    record {
      same_buffer = q.same_buffer ∙ p.same_buffer;
      same_length = q.same_length ∙ p.same_length;
      puts = parts_next f old.out.now next.out.now _ old.at next.at n p.puts p.same_length q.puts;
    }

module _ (widths : Widths) (sizes : Sizes) (v : Volume) where
  -- The answer of a page's read: the volume's, by conditions 1, 2 and 5, which all pages share; else the page's own.
  page_chain : (page : ℕ) → (page_read widths sizes v page).answer ≡ first_of (judged (volume_fits widths sizes v) sizes.pages sizes.slots v.flash.words v.state) (read_own FiveWords sizes.pages sizes.slots v.flash.words v.state page)
  unfolding page_read read_outcome_in
  page_chain page =
      let out : List ℕ = replicate sizes.width 0 in
      let whole : eqb (length out) sizes.width ≡ true = eq-eqb _ _ (length-replicate {A = ℕ} sizes.width 0) in
      let e = same_test (volume_fits widths sizes v && eqb (length out) sizes.width) (volume_fits widths sizes v) (both_left (volume_fits widths sizes v) (eqb (length out) sizes.width)) (λ h. both h whole) in
      settled_answer (read_answer widths sizes v page out) 0 0 out (bytes_at sizes.width v.flash.contents (read_slot sizes.slots v page))
      ∙ read_chain FiveWords widths sizes v page out
      ∙ ap (λ (b : Bool). first_of (judged b sizes.pages sizes.slots v.flash.words v.state) (read_own FiveWords sizes.pages sizes.slots v.flash.words v.state page)) e

  pub page_answered :
      (page first answer : ℕ) → first ≡ judged (volume_fits widths sizes v) sizes.pages sizes.slots v.flash.words v.state
      → answer ≡ first_of first (read_own FiveWords sizes.pages sizes.slots v.flash.words v.state page) → answer ≡ (page_read widths sizes v page).answer
  page_answered page first answer said e = rw (page_chain page, ← said) e

  -- Where the read of a page is accepted: the buffers have the table, the page's state and the bytes of its slot, which is there, and those are what is read.
  pub record Readable (page : ℕ) : Type 0 where
    pub table_there : 5 * sizes.slots ≤ length v.flash.words
    pub state_there : 4 * page + 4 ≤ length v.state
    pub slot_there : read_slot sizes.slots v page < sizes.slots
    pub bytes_there : sizes.width * read_slot sizes.slots v page + sizes.width ≤ length v.flash.contents
    pub drawn_there : (count_outcome widths (bytes_at sizes.width v.flash.contents (read_slot sizes.slots v page))).second ≡ drawn_of widths sizes v page

  pub readable : (page : ℕ) → (page_read widths sizes v page).answer ≡ 0 → Readable page
  unfolding page_read read_outcome_in read_slot_in read_own has_version drawn_of
  readable page e =
      let out : List ℕ = replicate sizes.width 0 in
      let bytes : List ℕ = bytes_at sizes.width v.flash.contents (read_slot sizes.slots v page) in
      let passed = both_pass _ _ (sym (page_chain page) ∙ e) in
      let f = fits_facts widths sizes v (judged_passed FiveWords (volume_fits widths sizes v) sizes.pages sizes.slots v.flash.words v.state passed.0).fitting in
      let in_range_lem = held (ltb page sizes.pages) _ _ passed.1 in
      let found = held (ltb (read_slot sizes.slots v page) sizes.slots) _ _ in_range_lem.1 in
      let below = ltb-true page sizes.pages in_range_lem.0 in
      let answer = read_answer widths sizes v page out in
      let left = settled_done answer 0 0 out bytes (sym (settled_answer answer 0 0 out bytes) ∙ e) in
      record {
        table_there = let size = f.flash_sized.words_sized in omega arith;
        state_there = let size = f.state_sized in omega arith;
        slot_there = ltb-true (read_slot sizes.slots v page) sizes.slots found.0;
        bytes_there =
            let size = f.flash_sized.contents_sized in
            let inside = part_inside sizes.width sizes.slots (read_slot sizes.slots v page) (ltb-true (read_slot sizes.slots v page) sizes.slots found.0) in
            omega arith;
        drawn_there = sym (ap (λ (o : Outcome (List ℕ)). (count_outcome widths o.left).second) left);
      }

  -- A refused list is its answer; an accepted one its pages and the answer 0.
  module _ (answer : ℕ) (e : answer ≡ list_answer widths sizes v) (out : List ℕ) (at : ℕ) (text : List ℕ) where
    pub list_refused : ¬ (answer ≡ 0) → text ≡ added out at (answer_text answer) → text ≡ added out at (list_text widths sizes v)
    unfolding list_text
    list_refused d q = rw (← e, ne_eqb answer 0 d) q

    pub list_accepted :
        (out₁ : List ℕ) (at₁ : ℕ) → answer ≡ 0 → shown out₁ at₁ ≡ added out at (join_parts sizes.pages (page_text widths sizes v)) → length out₁ ≡ length out
        → text ≡ added out₁ at₁ (answer_text 0) → text ≡ added out at (list_text widths sizes v)
    unfolding list_text
    list_accepted out₁ at₁ z h l q =
        rw (← e, eq-eqb answer 0 z) (q ∙ added_next out out₁ at at₁ (join_parts sizes.pages (page_text widths sizes v)) (answer_text 0) h l)

  pub puts_refused : (answer : ℕ) (old new : Printout) → answer ≡ list_answer widths sizes v → ¬ (answer ≡ 0) → Puts old new (answer_text answer) → Puts old new (list_text widths sizes v)
  puts_refused answer old new e d p = record { same_buffer = p.same_buffer; same_length = p.same_length; puts = list_refused answer e old.out.now old.at _ d p.puts }

  pub puts_accepted :
      (old next new : Printout) → 0 ≡ list_answer widths sizes v → Puts old next (join_parts sizes.pages (page_text widths sizes v)) → Puts next new (answer_text 0)
      → Puts old new (list_text widths sizes v)
  puts_accepted old next new e p q =
      record {
        same_buffer = q.same_buffer ∙ p.same_buffer;
        same_length = q.same_length ∙ p.same_length;
        puts = list_accepted 0 e old.out.now old.at _ next.out.now next.at refl p.puts p.same_length q.puts;
      }
