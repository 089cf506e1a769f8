-- What a run needs of a family of records: its invariant, that its steps keep it and recovery finds it, and what its calls test.
use Rattle.std.specs.Prelude.{ℕ, ◌<◌, ◌≡◌, Bool, true, false, length}
use Rattle.std.proofs.Common.{ap, ◌∙◌}
use mathlib.Core.List.{List, [], ◌∷◌, flatten}
use Rattle.bounded.specs.Limits.{Widths}
use Rattle.bounded.specs.Parts.{update}
use Rattle.outcome.specs.Outcome.{Outcome, settled}
use Rattle.outcome.specs.OutcomeLaws.{settled_answer, settled_refused, settled_done}
use Rattle.sizes.specs.declared.Layout.{Layout}
use Rattle.sizes.specs.declared.Sizes.{Sizes}
use Rattle.sizes.specs.Blocks.{NamedBlock}
use Rattle.record.specs.declared.Record.{Record}
use Rattle.record.specs.Slot.{Slot}
use Rattle.std.specs.Prelude.{Some}
use Rattle.record.specs.Slot.{slot_in, is_blank, record_sound}
use Rattle.record.specs.SlotLaws.{Storable}
use Rattle.record.specs.Flash.{Flash, Step, apply_in, apply_all_in}
use Rattle.state.specs.declared.PageState.{PageState}
use Rattle.state.specs.State.{state_at, state_words, in_flight, is_written}
use Rattle.state.specs.StateLaws.{StateFacts}
use Rattle.state.specs.Cycle.{along}
use Rattle.state.specs.CycleLaws.{Flies}
use Rattle.state.specs.Change.{at_rest, after_write}
use Rattle.table.specs.Table.{used_of}
use Rattle.rules.specs.Volume.{Volume}
use Rattle.rules.specs.laws.Volume.{FitsIn}
use Rattle.rules.specs.Write.{done_of_write}
use Rattle.rules.specs.Erase.{erase_steps}
use Rattle.protocol.specs.View.{pointing_view, InSlots, NoTwins}
use Rattle.protocol.specs.Shared.{SharedCore, SharedLive, comm_of, plan}
use Rattle.protocol.specs.SameSet.{SameRecords}
use Rattle.protocol.proofs.Stored.{Writes}
use Rattle.protocol.proofs.OneMore.{Missing}
use Rattle.protocol.proofs.Completed.{Completes}
use Rattle.atomicity.specs.Family.{Family}
use Rattle.atomicity.proofs.steps.Sparing.{Pairs, ErasedBy, HeldIn, Keeping, Spares}

-- what an accepted write has tested
pub record WriteTested (layout : Layout) (widths : Widths) (sizes : Sizes) (v : Volume) (page slot : ℕ) (bytes : List ℕ) : Type 0 where
  pub whole : length bytes ≡ sizes.width
  pub page_below : page < sizes.pages
  pub slot_below : slot < sizes.slots
  pub flying : in_flight (state_at v.state page) ≡ true
  pub unwritten : is_written (state_at v.state page) ≡ false
  pub free : is_blank (slot_in layout v.flash.words slot) ≡ true

-- the volume after a write
abbrev pub written : (F : Family) (sizes : Sizes) (v : Volume) (page slot : ℕ) (bytes : List ℕ) → Volume
written F sizes v page slot bytes =
    record {
      flash = apply_in F.layout sizes.width v.flash (Step.Store slot (F.plan (state_at v.state) page) bytes);
      state = state_words sizes.pages (after_write sizes.pages (state_at v.state) page);
    }

-- a call that alters the flash alone, by stages of which every part loses none but records that may be erased: `outcome` is what it gives and leaves
pub record SparingCall (K : Keeping) (outcome : Widths → Sizes → Volume → Outcome Flash) (stages : Sizes → Volume → List (List Step)) : Type 1 where
  pub answer : Widths → Sizes → Volume → ℕ
  pub outcome_is : (widths : Widths) (sizes : Sizes) (v : Volume) → outcome widths sizes v ≡ settled (answer widths sizes v) 0 0 v.flash (apply_all_in K.layout sizes.width v.flash (flatten (stages sizes v)))
  pub spares : (widths : Widths) (sizes : Sizes) (v : Volume) → FitsIn K.layout widths sizes v → answer widths sizes v ≡ 0 → Spares K sizes.width sizes.slots (state_at v.state) v.flash (stages sizes v)

module _ {K : Keeping} {outcome : Widths → Sizes → Volume → Outcome Flash} {stages : Sizes → Volume → List (List Step)} (C : SparingCall K outcome stages) (widths : Widths) (sizes : Sizes) (v : Volume) where
  pub spared_answer : (outcome widths sizes v).answer ≡ C.answer widths sizes v
  spared_answer = ap (λ (o : Outcome Flash). o.answer) (C.outcome_is widths sizes v) ∙ settled_answer (C.answer widths sizes v) _ _ _ _

  pub spared_done : C.answer widths sizes v ≡ 0 → (outcome widths sizes v).left ≡ apply_all_in K.layout sizes.width v.flash (flatten (stages sizes v))
  spared_done e = ap (λ (o : Outcome Flash). o.left) (C.outcome_is widths sizes v ∙ settled_done (C.answer widths sizes v) _ _ _ _ e)

  pub spared_refused : ¬ (C.answer widths sizes v ≡ 0) → (outcome widths sizes v).left ≡ v.flash
  spared_refused n = ap (λ (o : Outcome Flash). o.left) (C.outcome_is widths sizes v ∙ settled_refused (C.answer widths sizes v) _ _ _ _ n)

pub record Theory (F : Family) : Type 1 where
  -- ---- the invariant

  -- the back pointer of a planned record, by its page's used and committed versions
  pub back : (used committed : ℕ) → ℕ
  pub Core : (R : Pairs) (comm : ℕ → ℕ) (P : ℕ) (kept : ℕ → List ℕ) → Type 0
  pub shared : (R : Pairs) (comm : ℕ → ℕ) (P : ℕ) (kept : ℕ → List ℕ) → Core R comm P kept → SharedCore (pointing_view back) R comm P kept
  pub same : (P : ℕ) (R R' : Pairs) (comm comm' : ℕ → ℕ) (kept kept' : ℕ → List ℕ) → SameRecords P R R' comm comm' kept kept' → Core R comm P kept → Core R' comm' P kept'
  -- at rest, every record formatted
  pub at_start : (R : Pairs) (P : ℕ) (kept : ℕ → List ℕ) → SharedCore (pointing_view back) R (λ p. 0) P kept → ((r : Record) (b : List ℕ) → R r b → (r.v ≡ 0) × (r.nv ≡ 0)) → Core R (λ p. 0) P kept
  -- ---- a write

  pub plan_is : (st : ℕ → PageState) (p : ℕ) → F.plan st p ≡ plan (pointing_view back) st p
  pub plan_sound : (P : ℕ) (st : ℕ → PageState) → StateFacts P st → (p : ℕ) → Flies P st p → record_sound P (plan (pointing_view back) st p) ≡ true
  pub plan_storable : (P : ℕ) (st : ℕ → PageState) → StateFacts P st → (p : ℕ) → Flies P st p → Storable F.layout (plan (pointing_view back) st p)
  -- what an accepted write shows of the records besides
  pub Fresh : Pairs → (ℕ → PageState) → ℕ → Type 0
  pub more :
      (P : ℕ) (R R' : Pairs) (st : ℕ → PageState) (p : ℕ) (bytes : List ℕ) (kept : ℕ → List ℕ) (Entered : ℕ → List ℕ → Type 0)
      → Writes (pointing_view back) P R R' st p bytes
      → Core R (comm_of st) P kept
      → SharedLive (pointing_view back) P R st Entered
      → Fresh R st p
      → (d : ℕ) × Missing st p (along st (st p).next d)
      → Core R' (comm_of st) P kept
  pub completed :
      (P : ℕ) (R R' : Pairs) (st st' : ℕ → PageState) (p : ℕ) (bytes : List ℕ) (cycle : ℕ → Bool) (kept kept' : ℕ → List ℕ) (Entered Entered' : ℕ → List ℕ → Type 0)
      → Writes (pointing_view back) P R R' st p bytes
      → Completes P st st' p bytes cycle kept kept' Entered Entered'
      → Core R (comm_of st) P kept
      → SharedLive (pointing_view back) P R st Entered
      → Fresh R st p
      → Core R' (comm_of st') P kept'
  pub write_answer : Widths → Sizes → Volume → (page slot : ℕ) (bytes : List ℕ) → ℕ
  pub write_is :
      (widths : Widths) (sizes : Sizes) (v : Volume) (page slot : ℕ) (bytes : List ℕ)
      → F.write widths sizes v page slot bytes ≡ settled (write_answer widths sizes v page slot bytes) 0 (done_of_write sizes.pages (state_at v.state) page) v (written F sizes v page slot bytes)
  pub write_tested : (widths : Widths) (sizes : Sizes) (v : Volume) (page slot : ℕ) (bytes : List ℕ) → write_answer widths sizes v page slot bytes ≡ 0 → WriteTested F.layout widths sizes v page slot bytes
  pub write_fresh :
      (widths : Widths) (sizes : Sizes) (v : Volume) (page slot : ℕ) (bytes : List ℕ)
      → write_answer widths sizes v page slot bytes ≡ 0
      → (contents : ℕ → List ℕ)
      → Fresh (InSlots sizes.slots (slot_in F.layout v.flash.words) contents) (state_at v.state) page
  -- ---- losing records

  -- what the slots keep to, besides what the records do: it holds of records that differ in page or version, also with one more, and with fewer
  pub Apart : (S : ℕ) → (ℕ → Slot) → Type 0
  pub apart_at_first : (S : ℕ) (t : ℕ → Slot) → NoTwins S t → Apart S t
  pub apart_stored :
      (S : ℕ) (t : ℕ → Slot) (k : ℕ) (r : Record) → ((j : ℕ) (x : Record) → j < S → t j ≡ Some x → x.p ≡ r.p → x.v ≡ r.v → ⊥) → Apart S t → Apart S (update t k (Some r))
  pub Permitted : Pairs → (ℕ → PageState) → Record → Type 0
  pub fewer : (P : ℕ) (R R' : Pairs) (st : ℕ → PageState) (kept : ℕ → List ℕ) → ErasedBy Permitted R R' st → Core R (comm_of st) P kept → Core R' (comm_of st) P kept
  pub live_fewer :
      (P : ℕ) (R R' : Pairs) (st : ℕ → PageState) (kept : ℕ → List ℕ) (Entered : ℕ → List ℕ → Type 0)
      → ErasedBy Permitted R R' st
      → Core R (comm_of st) P kept
      → StateFacts P st
      → SharedLive (pointing_view back) P R st Entered
      → SharedLive (pointing_view back) P R' st Entered
  pub erases : (slots : List ℕ) → SparingCall (record { layout = F.layout; Permitted = Permitted; Apart = Apart }) (λ widths sizes v. F.erase widths sizes v slots) (λ sizes v. erase_steps slots ∷ [])
  pub cleans : (block : NamedBlock) → SparingCall (record { layout = F.layout; Permitted = Permitted; Apart = Apart }) (λ widths sizes v. F.clean widths sizes v block) (λ sizes v. F.clean_stages sizes v block)
  pub sweeps : SparingCall (record { layout = F.layout; Permitted = Permitted; Apart = Apart }) F.sweep F.sweep_stages
  -- ---- recovery

  pub recover_answer : Widths → Sizes → Volume → ℕ
  pub links : (P S : ℕ) → (ℕ → Slot) → ℕ
  pub recover_is :
      (widths : Widths) (sizes : Sizes) (v : Volume)
      → F.recover widths sizes v
      ≡ settled (recover_answer widths sizes v) 0 (links sizes.pages sizes.slots (slot_in F.layout v.flash.words)) v.state
      (state_words sizes.pages (λ p. at_rest (F.committed sizes.pages sizes.slots (slot_in F.layout v.flash.words) p) (used_of sizes.slots (slot_in F.layout v.flash.words) p)))
  pub recover_accepts :
      (widths : Widths) (sizes : Sizes) (v : Volume) (comm : ℕ → ℕ) (kept : ℕ → List ℕ)
      → FitsIn F.layout widths sizes v
      → Apart sizes.slots (slot_in F.layout v.flash.words)
      → Core (HeldIn F.layout sizes.width sizes.slots v.flash) comm sizes.pages kept
      → recover_answer widths sizes v ≡ 0
  pub committed_found_lem :
      (P S : ℕ) (t : ℕ → Slot) (bytes : ℕ → List ℕ) (comm : ℕ → ℕ) (kept : ℕ → List ℕ) → Core (InSlots S t bytes) comm P kept → (p : ℕ) → p < P → F.committed P S t p ≡ comm p

-- how the family loses records
abbrev pub keeping : {F : Family} → Theory F → Keeping
keeping {F} T = record { layout = F.layout; Permitted = T.Permitted; Apart = T.Apart }

-- ---- a call that is done, and one that is refused

module _ {F : Family} (T : Theory F) (widths : Widths) (sizes : Sizes) (v : Volume) where
  pub write_done : (page slot : ℕ) (bytes : List ℕ) → T.write_answer widths sizes v page slot bytes ≡ 0 → F.write widths sizes v page slot bytes ≡ record { answer = 0; second = done_of_write sizes.pages (state_at v.state) page; left = written F sizes v page slot bytes }
  write_done page slot bytes e = T.write_is widths sizes v page slot bytes ∙ settled_done (T.write_answer widths sizes v page slot bytes) _ _ _ _ e

  pub write_refused : (page slot : ℕ) (bytes : List ℕ) → ¬ (T.write_answer widths sizes v page slot bytes ≡ 0) → F.write widths sizes v page slot bytes ≡ record { answer = T.write_answer widths sizes v page slot bytes; second = 0; left = v }
  write_refused page slot bytes n = T.write_is widths sizes v page slot bytes ∙ settled_refused (T.write_answer widths sizes v page slot bytes) _ _ _ _ n

  -- what an accepted recover fills in
  abbrev pub found : List ℕ
  found = state_words sizes.pages (λ p. at_rest (F.committed sizes.pages sizes.slots (slot_in F.layout v.flash.words) p) (used_of sizes.slots (slot_in F.layout v.flash.words) p))

  pub recover_done : T.recover_answer widths sizes v ≡ 0 → F.recover widths sizes v ≡ record { answer = 0; second = T.links sizes.pages sizes.slots (slot_in F.layout v.flash.words); left = found }
  recover_done e = T.recover_is widths sizes v ∙ settled_done (T.recover_answer widths sizes v) _ _ _ _ e

  pub recover_refused : ¬ (T.recover_answer widths sizes v ≡ 0) → F.recover widths sizes v ≡ record { answer = T.recover_answer widths sizes v; second = 0; left = v.state }
  recover_refused n = T.recover_is widths sizes v ∙ settled_refused (T.recover_answer widths sizes v) _ _ _ _ n
