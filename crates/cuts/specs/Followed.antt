-- The program's buffers follow the reference model; behind a call that alters the state alone, and behind a cut between two calls.
use Rattle.std.specs.Prelude.{ℕ, ◌+◌, ◌*◌, ◌≤◌, ◌<◌, ◌≡◌, refl, List, [], ◌∷◌, ◌++◌, true, length, get_or}
use Rattle.std.proofs.Common.{arith, sym, ◌∙◌}
use Rattle.std.proofs.Math.Path.{ap, subst}
use Rattle.std.proofs.Math.Bool.{false}
use Rattle.std.proofs.lemmas.List.{length-replicate, get_or-replicate}
use Rattle.bounded.specs.Limits.{no_number, Widths}
use Rattle.bounded.specs.Choice.{on_eq, on_test, never}
use Rattle.bounded.specs.Entries.{stored_length}
use Rattle.outcome.specs.Outcome.{Outcome}
use Rattle.outcome.specs.OutcomeLaws.{settled_done, settled_refused}
use Rattle.sizes.specs.declared.Layout.TheVariants.{FiveWords}
use Rattle.sizes.specs.declared.Sizes.{Sizes}
use Rattle.record.specs.Slot.{slot_at}
use Rattle.state.specs.declared.PageState.{PageState}
use Rattle.state.specs.State.{state_at, state_words, in_flight}
use Rattle.state.specs.StateLaws.{state_sound_facts, state_at_words, state_at_reads, length_state_words, none_rests}
use Rattle.state.specs.Change.{launched, withdrawn, withdrawn_page, at_rest}
use Rattle.state.specs.Cycle.{on_cycle}
use Rattle.state.specs.CycleLaws.{Flies}
use Rattle.rules.specs.Volume.{Volume}
use Rattle.rules.specs.Launch.{launch_answer, launch_outcome}
use Rattle.rules.specs.Withdraw.{withdraw_answer, withdraw_outcome}
use Rattle.rules.specs.Recover.{recovered, recover_answer, recover_outcome}
use Rattle.rules.specs.laws.Volume.{FitsIn}
use Rattle.rules.proofs.laws.Accepted.{launch_tests, withdraw_tests}
use Rattle.rules.proofs.laws.Outcomes.{launch_refused, launch_done, withdraw_refused, withdraw_done}
use Rattle.atomicity.specs.Call.{Call}
use Rattle.atomicity.specs.Model.{Told, Model, new_ring, close_ring, close_all, accept, learns}
use Rattle.everywhere.specs.Cuts.{wiped_state}
use Rattle.atomicity.specs.rings.Match.{RingsMatch}
use Rattle.atomicity.proofs.rings.Cycle.{rings_match_cong}
use Rattle.atomicity.proofs.rings.Launch.{launch_match, launch_entered}
use Rattle.atomicity.proofs.rings.Close.{close_entered, withdraw_match, no_rings_match}
use Rattle.atomicity.proofs.steps.Launch.{listed_some, listed_launchable}
use Rattle.ledger.specs.Ledger.{settled_entered, settled_kept}
use Rattle.recorded.specs.Desk.{Desk, Ready, settled_desk}
use Rattle.cuts.specs.Follows.{EnteredAt, EnteredIs, KeptIs, entered_settled, kept_stays}
use Rattle.atomicity.proofs.steps.Event.{learns_refused}

-- ---- the state

-- no page of a wiped state is in flight
wiped_rests : (sizes : Sizes) (p : ℕ) → p < sizes.pages → in_flight (state_at (wiped_state sizes) p) ≡ false
unfolding wiped_state
wiped_rests sizes p h =
    none_rests (state_at (wiped_state sizes) p)
    (ap (λ (s : PageState). s.next) (state_at_reads (wiped_state sizes) p) ∙ get_or-replicate (4 * sizes.pages) (4 * p + 2) no_number 0 (omega arith))

module _ (widths : Widths) (sizes : Sizes) where
  -- The buffers follow the model.
  pub record Follows (m : Model) (d : Desk) : Type 0 where
    pub ready : Ready widths sizes d
    pub matches : RingsMatch sizes.pages (state_at d.volume.state) m.rings
    pub entered_is : EnteredIs sizes.width sizes.pages m.rings d.entered
    pub kept_is : KeptIs sizes.width sizes.pages m.kept d.kept

  module _ (d : Desk) (ready : Ready widths sizes d) where
    -- a call that left this volume and completed no ring
    pub behind :
        (m : Model) (v : Volume) → FitsIn FiveWords widths sizes v → RingsMatch sizes.pages (state_at v.state) m.rings
        → ((p : ℕ) → p < sizes.pages → in_flight (state_at v.state p) ≡ true → EnteredAt sizes.width m.rings p (get_or d.entered p 0))
        → KeptIs sizes.width sizes.pages m.kept d.kept
        → Follows m (settled_desk widths sizes false v d.entered d.kept)
    unfolding settled_desk settled_entered settled_kept
    behind m v fits match flying kept =
        record {
          ready = record {
            fits = fits;
            entered_room = subst (λ (n : ℕ). sizes.pages ≤ n) (sym (stored_length _ d.entered sizes.pages)) ready.entered_room;
            kept_room = subst (λ (n : ℕ). sizes.pages ≤ n) (sym (stored_length _ d.kept sizes.pages)) ready.kept_room;
          };
          matches = match;
          entered_is = entered_settled sizes.width sizes.pages (state_at v.state) d.entered ready.entered_room m.rings match flying;
          kept_is = kept_stays sizes.width sizes.pages (state_at v.state) d.entered d.kept ready.kept_room m.kept kept;
        }

    -- … and closed all rings
    behind_none :
        (kept : ℕ → List ℕ) (v : Volume) → FitsIn FiveWords widths sizes v → ((p : ℕ) → p < sizes.pages → in_flight (state_at v.state p) ≡ false)
        → KeptIs sizes.width sizes.pages kept d.kept
        → Follows (record { kept = kept; rings = [] }) (settled_desk widths sizes false v d.entered d.kept)
    behind_none kept v fits rests k =
        behind (record { kept = kept; rings = [] }) v fits (no_rings_match sizes.pages (state_at v.state) rests) (λ p h y. absurd (never y (rests p h))) k

  -- ---- where nothing changed

  pub unchanged : (m : Model) (d : Desk) → Follows m d → Follows m (settled_desk widths sizes false d.volume d.entered d.kept)
  unchanged m d f = behind d f.ready m d.volume f.ready.fits f.matches (λ p h y. f.entered_is p h) f.kept_is

  -- the volume with another state of 4×P words
  restated : (v : Volume) (state : List ℕ) → FitsIn FiveWords widths sizes v → length state ≡ 4 * sizes.pages → FitsIn FiveWords widths sizes (record { flash = v.flash; state = state })
  restated v state fits e = record { bounds = fits.bounds; allowed = fits.allowed; flash_sized = fits.flash_sized; state_sized = e }

  module _ (m : Model) (d : Desk) (f : Follows m d) where
    abbrev st : ℕ → PageState
    st = state_at d.volume.state

    -- ---- calls that alter the state alone

    abbrev StateFollows : Call → Outcome (List ℕ) → Type 0
    StateFollows call o = Follows (learns m (Told.Answered call o.answer)) (settled_desk widths sizes false (record { flash = d.volume.flash; state = o.left }) d.entered d.kept)

    -- refused, and accepted
    state_refused : (call : Call) (a : ℕ) (o : Outcome (List ℕ)) → o ≡ record { answer = a; second = 0; left = d.volume.state } → ¬ (a ≡ 0) → StateFollows call o
    state_refused call a o e n =
        subst (StateFollows call) (sym e)
        (subst (λ (x : Model). Follows x (settled_desk widths sizes false d.volume d.entered d.kept)) (sym (learns_refused m call a n)) (unchanged m d f))

    state_done : (call : Call) (second : ℕ) (state : List ℕ) (o : Outcome (List ℕ)) → o ≡ record { answer = 0; second = second; left = state }
        → Follows (accept m call) (settled_desk widths sizes false (record { flash = d.volume.flash; state = state }) d.entered d.kept) → StateFollows call o
    unfolding learns
    state_done call second state o e h = subst (StateFollows call) (sym e) h

    pub launch_follows : (pages : List ℕ) → StateFollows (Call.Launch pages) (launch_outcome widths sizes d.volume.state pages)
    unfolding accept
    launch_follows pages =
        on_eq (launch_answer widths sizes d.volume.state pages) 0
        (λ e.
        let t = launch_tests widths sizes d.volume.state pages e in
        let ok = listed_launchable sizes.pages st pages (state_sound_facts sizes.pages st t.sound) t.listed t.none_flying t.none_used_up in
        let most = f.ready.fits.bounds.pages_most in
        let match = launch_match sizes.pages st pages ok (listed_some sizes.pages pages t.listed) (omega arith) m.rings f.matches in
        let state = state_words sizes.pages (launched pages st) in
        state_done (Call.Launch pages) 0 state (launch_outcome widths sizes d.volume.state pages) (launch_done widths sizes d.volume.state pages e)
        (behind d f.ready (accept m (Call.Launch pages)) (record { flash = d.volume.flash; state = state })
        (restated d.volume state f.ready.fits (length_state_words sizes.pages (launched pages st)))
        (rings_match_cong sizes.pages (launched pages st) (m.rings ++ new_ring pages ∷ []) match (state_at state) (λ q h. state_at_words sizes.pages (launched pages st) q h))
        (λ p h y. let was = f.entered_is p h in record {
          nothing = λ z b i. was.nothing z b ((launch_entered pages m.rings p b).0 i);
          bytes = λ z. (launch_entered pages m.rings p _).1 (was.bytes z);
        })
        f.kept_is))
        (λ n. state_refused (Call.Launch pages) (launch_answer widths sizes d.volume.state pages) _ (launch_refused widths sizes d.volume.state pages n) n)

    pub withdraw_follows : (page : ℕ) → StateFollows (Call.Withdraw page) (withdraw_outcome widths sizes d.volume.state page)
    unfolding accept withdrawn withdrawn_page at_rest
    withdraw_follows page =
        on_eq (withdraw_answer widths sizes d.volume.state page) 0
        (λ e.
        let t = withdraw_tests widths sizes d.volume.state page e in
        let sound = state_sound_facts sizes.pages st t.sound in
        let flies : Flies sizes.pages st page = record { below = t.page_below; flies = t.flying } in
        let state = state_words sizes.pages (withdrawn sizes.pages st page) in
        let same : (q : ℕ) → q < sizes.pages → state_at state q ≡ withdrawn sizes.pages st page q = λ q h. state_at_words sizes.pages (withdrawn sizes.pages st page) q h in
        state_done (Call.Withdraw page) 0 state (withdraw_outcome widths sizes d.volume.state page) (withdraw_done widths sizes d.volume.state page e)
        (behind d f.ready (accept m (Call.Withdraw page)) (record { flash = d.volume.flash; state = state })
        (restated d.volume state f.ready.fits (length_state_words sizes.pages (withdrawn sizes.pages st page)))
        (rings_match_cong sizes.pages (withdrawn sizes.pages st page) (close_ring page m.rings) (withdraw_match sizes.pages st m.rings sound f.matches page flies) (state_at state) same)
        (λ p h y.
        let was = f.entered_is p h in
        let off : on_cycle sizes.pages st page p ≡ false = on_test (on_cycle sizes.pages st page p) (λ on. absurd (never y (ap in_flight (same p h) ∙ rw on (none_rests (withdrawn_page (st p)) refl)))) (λ off. off) in
        let i = close_entered sizes.pages st m.rings sound f.matches page flies p off in
        record { nothing = λ z b k. was.nothing z b ((i b).0 k); bytes = λ z. (i _).1 (was.bytes z) })
        f.kept_is))
        (λ n. state_refused (Call.Withdraw page) (withdraw_answer widths sizes d.volume.state page) _ (withdraw_refused widths sizes d.volume.state page n) n)

    pub recover_follows : StateFollows Call.Recover (recover_outcome widths sizes d.volume)
    unfolding accept close_all recover_outcome recovered at_rest
    recover_follows =
        on_eq (recover_answer widths sizes d.volume) 0
        (λ e.
        let found = recovered sizes.pages sizes.slots (slot_at d.volume.flash.words) in
        let state = state_words sizes.pages found in
        state_done Call.Recover _ state _ (settled_done (recover_answer widths sizes d.volume) 0 _ d.volume.state state e)
        (behind_none d f.ready m.kept (record { flash = d.volume.flash; state = state })
        (restated d.volume state f.ready.fits (length_state_words sizes.pages found))
        (λ p h. ap in_flight (state_at_words sizes.pages found p h) ∙ none_rests (found p) refl)
        f.kept_is))
        (λ n. state_refused Call.Recover (recover_answer widths sizes d.volume) _ (settled_refused (recover_answer widths sizes d.volume) 0 _ d.volume.state _ n) n)

    -- ---- a cut between two calls

    pub cut_follows : Follows (close_all m) (settled_desk widths sizes false (record { flash = d.volume.flash; state = wiped_state sizes }) d.entered d.kept)
    unfolding close_all wiped_state
    cut_follows =
        behind_none d f.ready m.kept (record { flash = d.volume.flash; state = wiped_state sizes })
        (restated d.volume (wiped_state sizes) f.ready.fits (length-replicate (4 * sizes.pages) no_number))
        (wiped_rests sizes) f.kept_is
