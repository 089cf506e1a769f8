use Rattle.std.proofs.Common.{rules, arith, None, Some, ℕ, ◌≡◌, ◌≤◌, ◌<◌}
use Rattle.bounded.specs.Limits.{no_number}
use Rattle.record.specs.declared.Record.{Record}
use Rattle.record.specs.Slot.{slot_in}
use Rattle.chain.proofs.ChainLaws.{no_page_blank}
use Rattle.chain.proofs.link_sound_slots.Goals as goal

pub link_all_but-requires-clause-blank : goal.link_all_but-requires-clause-blank
link_all_but-requires-clause-blank c = let a = c.args in
    let p = c.requires in
    let few : a.sizes.pages ≤ no_number = omega arith in
    let blank : (k : ℕ) → k < a.sizes.slots → ((r : Record) → slot_in a.layout a.words.now k ≡ Some r → r.p ≡ no_number) → slot_in a.layout a.words.now k ≡ None =
    λ k h f. no_page_blank _ _ _ k p.words_value h few f in
    λ k h ran. blank k h (search rules)
