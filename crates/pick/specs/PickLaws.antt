-- What the tests of a pick say, its answer, and the words that it leaves.
use Rattle.std.specs.Prelude.{ℕ, ◌-◌, ◌*◌, ◌≤◌, ◌<◌, ◌≡◌, List, [], ◌∷◌, Bool, true, length}
use native.Mathlib.Omega.{arith}
use Rattle.std.proofs.Math.Path.{refl, sym, ap}
use Rattle.std.proofs.Common.{◌∙◌}
use borrow.Author.Tests.{ltb-true, eq-eqb}
use Rattle.bounded.specs.Limits.{Widths, two_widths}
use Rattle.bounded.specs.Below.{max_below}
use Rattle.outcome.specs.Outcome.{◌⇒◌otherwise◌}
use Rattle.outcome.specs.Chain.{first_refuses, first_passes}
use Rattle.sizes.specs.declared.Sizes.{Sizes}
use Rattle.sizes.specs.Blocks.{NamedBlock, starts_ok, block_ok}
use Rattle.chain.specs.Chain.{Linkable}
use Rattle.rules.specs.Volume.{Volume, volume}
use Rattle.upkeep.specs.Pick.{looked_at, frees, most_freed, picked_block, unseen_lead, pick_of, four_words, pick_answer}
use Rattle.rules.specs.laws.Chains.{block_judged}
use Rattle.rules.proofs.laws.Chains.{block_judged_passed, volume_spans}
use Rattle.upkeep.proofs.laws.Tests.{pick_own, pick_chain}
use Rattle.upkeep.proofs.laws.Pick.{unseen_by_place, pick_passes}
use Rattle.judge.specs.Judgeable.{sound_flash}
use Rattle.pick.specs.declared.Freed.{Freed}
use Rattle.pick.specs.Picking.{best_by, unseen_by}

-- ---- the answer, behind what the calls on a block share

module _ (widths : Widths) (sizes : Sizes) (v : Volume) (block : NamedBlock) (n : ℕ) (out : List ℕ) (four : length out ≡ 4) where
  pub judged_refuses : {first : ℕ} → first ≡ block_judged widths sizes v block → ¬ (first ≡ 0) → first ≡ pick_answer widths sizes v block n out
  judged_refuses {first} e h = first_refuses first _ e h ∙ sym (pick_chain widths sizes v block n out four)

  module _ (none : 0 ≡ block_judged widths sizes v block) where
    -- "18, n is 0"
    pub none_refused : n ≡ 0 → 18 ≡ pick_answer widths sizes v block n out
    unfolding pick_own
    none_refused e = first_passes 0 18 none refl (sym (ap (λ (b : Bool). b ⇒ 18 otherwise 0) (eq-eqb n 0 e))) ∙ sym (pick_chain widths sizes v block n out four)

    pub all_passed : ¬ (n ≡ 0) → 0 ≡ pick_answer widths sizes v block n out
    all_passed d = sym (pick_passes widths sizes v block n out four (sym none) d)

-- ---- a volume and a block of it whose conditions pass

module _ (sizes : Sizes) (words contents state : List ℕ) (block : NamedBlock) where
  pub record Pickable : Type 0 where
    pub linkable : Linkable sizes.pages sizes.slots words
    pub pages_in_lem : 4 * sizes.pages ≤ length state
    pub bytes_in : sizes.width * sizes.slots ≤ length contents
    pub starts_sound : starts_ok sizes.slots block.starts ≡ true
    pub there : block.number < length block.starts

  -- at the two widths there are
  pub pickable : 0 ≡ block_judged two_widths sizes (volume words contents state) block → Pickable
  unfolding block_ok
  pickable none =
      let t = block_judged_passed two_widths sizes (volume words contents state) block (sym none) in
      let f = sound_flash sizes words contents state t.fitting t.table in
      record {
        linkable = f.linkable;
        pages_in_lem = (volume_spans _ two_widths sizes (volume words contents state) t.fitting).pages_in_lem;
        bytes_in = let s = f.flash_sized.contents_sized in omega arith;
        starts_sound = t.starts_sound;
        there = ltb-true block.number (length block.starts) t.named;
      }

-- ---- the words

pub looked_most : (block : NamedBlock) (n : ℕ) {looked : ℕ} → looked ≡ looked_at block n → looked ≤ length block.starts
unfolding looked_at
looked_most block n e = omega arith

module _ (sizes : Sizes) (v : Volume) (block : NamedBlock) (there : block.number < length block.starts) (n : ℕ) {looked : ℕ} (is_looked : looked ≡ looked_at block n) {best : Freed} (is_best : best ≡ best_by block looked (frees sizes v)) where
  best_picked : best ≡ record { block = (picked_block sizes v block n).number; frees = most_freed sizes v block n }
  unfolding best_by picked_block most_freed
  best_picked = is_best ∙ ap (λ (k : ℕ). best_by block k (frees sizes v)) is_looked

  module _ {largest lead : ℕ} (is_largest : largest ≡ max_below (length block.starts) (unseen_by sizes.slots block looked)) (is_lead : lead ≡ largest - best.frees) where
    lead_picked : lead ≡ unseen_lead sizes v block n
    unfolding unseen_lead unseen_by
    lead_picked =
        let l = is_largest ∙ ap (λ (k : ℕ). max_below (length block.starts) (unseen_by sizes.slots block k)) is_looked ∙ unseen_by_place block there n sizes v in
        let f = ap (λ (b : Freed). b.frees) best_picked in
        omega arith

    pub words_picked : best.block ∷ best.frees ∷ looked ∷ lead ∷ [] ≡ four_words (pick_of sizes v block n)
    unfolding pick_of
    words_picked = rw (best_picked, is_looked, lead_picked)
