-- Erasing, cleaning and sweeping records with a back pointer lose none but records that may be erased: a slot whose twin stays loses nothing.
use Rattle.std.specs.Prelude.{ℕ, suc, ◌<◌, ◌≡◌, refl, ◌⊎◌, Bool, true, false, eqb, length, get_or}
use Rattle.std.proofs.Common.{sym, ap, ◌∙◌, subst, inl, inr, ⊎_elim, eq-eqb}
use mathlib.Core.List.{List, [], ◌∷◌, ◌++◌, map, Memᴰ}
use Rattle.bounded.specs.Limits.{Widths}
use Rattle.bounded.specs.Choice.{on_eq, on_test, never}
use Rattle.bounded.specs.BelowLaws.{some_of}
use Rattle.bounded.specs.Members.{member_at}
use Rattle.sizes.specs.declared.Block.{Block}
use Rattle.sizes.specs.declared.Layout.TheVariants.{FiveWords}
use Rattle.sizes.specs.declared.Sizes.{Sizes}
use Rattle.sizes.specs.Sizes.{listed}
use Rattle.sizes.specs.Blocks.{NamedBlock, block_at}
use Rattle.sizes.specs.Lists.{list_facts}
use Rattle.record.specs.declared.Record.{Record}
use Rattle.std.specs.Prelude.{Some}
use Rattle.record.specs.Slot.{slot_at, bytes_at}
use Rattle.record.specs.SlotLaws.{holds_one}
use Rattle.record.specs.Flash.{Flash, Step, apply_all_in}
use Rattle.record.specs.FlashLaws.{SizedIn, members_below}
use Rattle.state.specs.declared.PageState.{PageState}
use Rattle.state.specs.State.{state_at}
use Rattle.table.proofs.TableLaws.{blank_holds}
use Rattle.twins.specs.Twins.{twins}
use Rattle.twins.proofs.TwinsLaws.{twins_exactly}
use Rattle.rules.specs.Volume.{Volume}
use Rattle.rules.specs.Erase.{erase_steps, erase_answer}
use Rattle.upkeep.specs.Sweep.{swept_exposed, without_exposed, swept_obsolete, without_obsolete, swept_twins, sweep_stages, sweep_answer}
use Rattle.upkeep.specs.Swept.{NoneOrErasable}
use Rattle.upkeep.specs.Clean.{copy_steps, clean_copies, clean_blanks, clean_stages, clean_answer}
use Rattle.rules.specs.Permission.{scene_of}
use Rattle.rules.specs.laws.Volume.{Fits}
use Rattle.rules.proofs.laws.Volume.{bytes_whole}
use Rattle.rules.proofs.laws.Permission.{may_erase_from_lem, may_erase_all_lem}
use Rattle.rules.proofs.laws.Accepted.{erase_tests}
use Rattle.upkeep.proofs.laws.Tests.{CleanTests, clean_tests}
use Rattle.upkeep.specs.laws.Copies.{Source, Ready}
use Rattle.upkeep.proofs.laws.Copies.{copied, copy_sized, copy_there, copy_elsewhere, first, first_source, first_below_lem, ready_on}
use Rattle.upkeep.proofs.laws.Clean as clean
use Rattle.upkeep.proofs.laws.Sweep as sweep
use Rattle.upkeep.proofs.laws.Sweep.{sweep_erases}
use Rattle.protocol.specs.View.{finds_in_slots}
use Rattle.protocol.specs.Permitted.{Permitted, permitted_same, may_erase_permitted}
use Rattle.atomicity.specs.Run.{done_of}
use Rattle.atomicity.proofs.steps.Sparing.{Keeping, HeldIn, Spared, Spares, spared_same, blanking_spares}

-- records with a back pointer: their slots keep to nothing besides
abbrev pub twinned : Keeping
twinned = record { layout = FiveWords; Permitted = Permitted; Apart = λ S t. Unit {0} }

-- ---- an erasure

-- what is not listed is no member
unlisted : (slots : List ℕ) (j : ℕ) → listed slots j ≡ false → ¬ (Memᴰ j slots)
unfolding listed
unlisted slots j e m =
    let w = member_at slots j m in
    never (some_of (λ i. eqb (get_or slots i 0) j) (length slots) w.0 w.1 (eq-eqb (get_or slots w.0 0) j w.2)) e

pub erase_spares :
    (widths : Widths) (sizes : Sizes) (v : Volume) (slots : List ℕ)
    → Fits widths sizes v
    → erase_answer widths sizes v slots ≡ 0
    → Spares twinned sizes.width sizes.slots (state_at v.state) v.flash (erase_steps slots ∷ [])
unfolding erase_steps
erase_spares widths sizes v slots fits e =
    blanking_spares twinned sizes.width sizes.slots (state_at v.state) v.flash fits.flash_sized slots
    (record { inside = inside; allowed = allowed; apart_fewer = λ t t' sub a. tt })
  where
    inside : (k : ℕ) → Memᴰ k slots → k < sizes.slots
    inside = members_below sizes.slots slots (list_facts sizes.slots slots (erase_tests widths sizes v slots e).listed).in_range_lem

    whole : (k : ℕ) → k < sizes.slots → length (bytes_at sizes.width v.flash.contents k) ≡ sizes.width
    whole = bytes_whole sizes.width sizes.slots v.flash fits.flash_sized

    allowed :
        (k : ℕ) (r : Record)
        → Memᴰ k slots
        → slot_at v.flash.words k ≡ Some r
        → ((j : ℕ) × (j < sizes.slots) × ¬ (Memᴰ j slots) × (slot_at v.flash.words j ≡ Some r) × (bytes_at sizes.width v.flash.contents j ≡ bytes_at sizes.width v.flash.contents k)) ⊎ Permitted (HeldIn FiveWords sizes.width sizes.slots v.flash) (state_at v.state) r
    allowed k r m h =
        let i = member_at slots k m in
        let p = (may_erase_all_lem (scene_of sizes v) slots).0 (erase_tests widths sizes v slots e).permitted i.0 i.1 in
        ⊎_elim
        (λ w. let t = (twins_exactly sizes.width v.flash w.0 k (whole w.0 w.1) (whole k (inside k m))).0 (subst (λ (x : ℕ). twins sizes.width v.flash w.0 x ≡ true) i.2 w.2) in
        inl (w.0, w.1, unlisted slots w.0 w.3, t.1 ∙ sym t.2 ∙ h, t.3))
        (λ o. inr (may_erase_permitted sizes.slots (slot_at v.flash.words) (bytes_at sizes.width v.flash.contents) (state_at v.state) (twins sizes.width v.flash) (get_or slots i.0 0) r o (ap (slot_at v.flash.words) i.2 ∙ h)))
        ((may_erase_from_lem (scene_of sizes v) (listed slots) (get_or slots i.0 0)).0 p)

-- ---- copies

module _ (w S : ℕ) (st : ℕ → PageState) (f : Flash) (sized : SizedIn FiveWords w S f) where
  -- one copy loses nothing: what it stores was there, and the slot was blank
  copy_spared : (g : Flash) (b k : ℕ) (from : List ℕ) (j : ℕ) (to : List ℕ) (ready : Ready w S f sized g b (k ∷ from) (j ∷ to)) → Spared twinned w S st g (first w S f sized g b k from j to ready)
  copy_spared g b k from j to ready =
      record {
        sized = copy_sized w S f sized g ready.size k j source below;
        erased = record {
          fewer = λ r d h. on_eq h.0 j
              (λ q. let u = ready.unaltered k (Memᴰ.head refl) in
              let same = holds_one (ap (slot_at next.words) (sym q) ∙ h.2) there.0 in
              (k, source.source_below, u.same_slot ∙ source.holds_it ∙ ap Some (sym same), u.same_bytes ∙ sym there.1 ∙ ap (bytes_at w next.contents) (sym q) ∙ h.3))
              (λ d. let s = copy_elsewhere w S f sized g ready.size k j source below h.0 d in (h.0, h.1, sym s.same_slot ∙ h.2, sym s.same_bytes ∙ h.3));
          finds_before = finds_in_slots S (slot_at g.words) (bytes_at w g.contents);
          finds = finds_in_slots S (slot_at next.words) (bytes_at w next.contents);
          stays_or_permitted = λ r d h.
              let s = copy_elsewhere w S f sized g ready.size k j source below h.0 (λ q. blank_holds (ap (slot_at g.words) q ∙ ready.blank j (Memᴰ.head refl)) h.2) in
              inl (h.0, h.1, s.same_slot ∙ h.2, s.same_bytes ∙ h.3);
        };
        apart = λ a. tt;
      }
    where
      source : Source S f k
      source = first_source w S f sized g b k from j to ready

      below : j < S
      below = first_below_lem w S f sized g b k from j to ready

      next : Flash
      next = first w S f sized g b k from j to ready

      there : (slot_at next.words j ≡ Some source.held) × (bytes_at w next.contents j ≡ bytes_at w f.contents k)
      there = copy_there w S f sized g ready.size k j source below

  -- the copies, each a stage by itself, and then the stages behind them
  copies_spare :
      (g : Flash) (b : ℕ) (from to : List ℕ)
      → Ready w S f sized g b from to
      → (rest : List (List Step))
      → Spares twinned w S st (copied w S f sized g from to) rest
      → Spares twinned w S st g (map (λ s. s ∷ []) (copy_steps w f from to) ++ rest)
  unfolding Spares copy_steps apply_all_in done_of
  copies_spare g b [] to ready rest s = s
  copies_spare g b (k ∷ from) [] ready rest s = s
  copies_spare g b (k ∷ from) (j ∷ to) ready rest s = (
    λ done. on_test (done 0)
        (λ e. rw e (copy_spared g b k from j to ready))
        (λ e. rw e (spared_same twinned w S st g ready.size)),
    copies_spare (first w S f sized g b k from j to ready) (suc j) from to (ready_on w S f sized g b k from j to ready) rest s,
  )

-- ---- a cleaning

pub clean_spares :
    (widths : Widths) (sizes : Sizes) (v : Volume) (block : NamedBlock)
    → Fits widths sizes v
    → clean_answer widths sizes v block ≡ 0
    → Spares twinned sizes.width sizes.slots (state_at v.state) v.flash (clean_stages sizes v (block_at sizes.slots block))
unfolding clean_stages clean_copies clean_blanks erase_steps
clean_spares widths sizes v block fits e =
    copies_spare w S st v.flash size v.flash 0 (clean.from sizes v b size a.table) (clean.to sizes v b size a.table) (clean.ready sizes v b size a.table)
    (map Step.Blank (clean.block_slots sizes v b size a.table a.room) ∷ [])
    (blanking_spares twinned w S st g (clean.copies_sized sizes v b size a.table) (clean.block_slots sizes v b size a.table a.room)
    (record { inside = clean.block_in_range sizes v b size a.table a.room; allowed = allowed; apart_fewer = λ t t' sub x. tt }))
  where
    a : CleanTests widths sizes v block
    a = clean_tests widths sizes v block e

    w : ℕ
    w = sizes.width

    S : ℕ
    S = sizes.slots

    st : ℕ → PageState
    st = state_at v.state

    b : Block
    b = block_at sizes.slots block

    size : SizedIn FiveWords sizes.width sizes.slots v.flash
    size = fits.flash_sized

    g : Flash
    g = clean.copies_done sizes v b size a.table

    forth : (r : Record) (d : List ℕ) → HeldIn FiveWords w S v.flash r d → HeldIn FiveWords w S g r d
    forth r d h = let s = clean.copies_stay sizes v b size a.table h.0 r h.2 in (h.0, h.1, s.same_slot ∙ h.2, s.same_bytes ∙ h.3)

    back : (r : Record) (d : List ℕ) → HeldIn FiveWords w S g r d → HeldIn FiveWords w S v.flash r d
    back r d h = let u = clean.copies_back sizes v b size a.table h.0 r h.1 h.2 in (u.0, u.1, u.2.0, u.2.1 ∙ h.3)

    allowed :
        (k : ℕ) (r : Record)
        → Memᴰ k (clean.block_slots sizes v b size a.table a.room)
        → slot_at g.words k ≡ Some r
        → ((j : ℕ) × (j < S) × ¬ (Memᴰ j (clean.block_slots sizes v b size a.table a.room)) × (slot_at g.words j ≡ Some r) × (bytes_at w g.contents j ≡ bytes_at w g.contents k)) ⊎ Permitted (HeldIn FiveWords w S g) st r
    allowed k r m h =
        let i = clean.block_member sizes v b size a.table a.room k m in
        let s = clean.copies_inside sizes v b size a.table k i.1 in
        let was = sym s.same_slot ∙ h in
        ⊎_elim
        (λ o. inl (o.0, o.1, (λ n. never (clean.block_member sizes v b size a.table a.room o.0 n).1 o.2), o.3.0, o.3.1 ∙ sym s.same_bytes))
        (λ o. inr (permitted_same forth back st r (may_erase_permitted S (slot_at v.flash.words) (bytes_at w v.flash.contents) st (twins w v.flash) k r o was)))
        (clean.outside_or_erasable sizes v b size a.table a.room k r i.0 i.1 was)

-- ---- a sweep

-- an erasure that is empty or accepted, as one stage of several
stage_spares :
    (widths : Widths) (sizes : Sizes) (v : Volume) (f : Flash) (slots : List ℕ)
    → Fits widths sizes (record { flash = f; state = v.state })
    → NoneOrErasable widths sizes v f slots
    → (done : ℕ → Bool)
    → Spared twinned sizes.width sizes.slots (state_at v.state) f (apply_all_in FiveWords sizes.width f (done_of done 0 (erase_steps slots)))
unfolding Spares erase_steps done_of apply_all_in
stage_spares widths sizes v f slots fits (inl none) done = rw none (spared_same twinned sizes.width sizes.slots (state_at v.state) f fits.flash_sized)
stage_spares widths sizes v f slots fits (inr e) done = (erase_spares widths sizes (record { flash = f; state = v.state }) slots fits e).0 done

pub sweep_spares :
    (widths : Widths) (sizes : Sizes) (v : Volume)
    → Fits widths sizes v
    → sweep_answer widths sizes v ≡ 0
    → Spares twinned sizes.width sizes.slots (state_at v.state) v.flash (sweep_stages sizes v)
unfolding Spares sweep_stages without_exposed without_obsolete
sweep_spares widths sizes v fits e =
    let each = sweep_erases widths sizes v e in (
      stage_spares widths sizes v v.flash (swept_exposed sizes v) fits each.0,
      (
        stage_spares widths sizes v (without_exposed sizes v) (swept_obsolete sizes v) (sweep.fits1 widths sizes v e) each.1,
        (stage_spares widths sizes v (without_obsolete sizes v) (swept_twins sizes v) (sweep.fits2 widths sizes v e) each.2, tt),
      ),
    )
