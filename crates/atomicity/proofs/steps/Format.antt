-- A formatted volume has the invariant, with the zeros kept.
use Rattle.std.specs.Prelude.{ℕ, ◌<◌, ◌≡◌, List, [], Bool, true, false, cond, ltb}
use native.Mathlib.Omega.{arith}
use Rattle.std.proofs.Math.Path.{refl, sym, ap}
use Rattle.std.proofs.Common.{◌∙◌, lt-ltb}
use Rattle.std.proofs.Math.Logic.{inr}
use Rattle.std.proofs.Math.ListN.{replicate, length-replicate}
use Rattle.bounded.specs.Limits.{Widths}
use Rattle.bounded.specs.Choice.{never}
use Rattle.bounded.specs.PartsLaws.{part_join_parts, length_join_parts}
use Rattle.sizes.specs.declared.Sizes.{Sizes}
use Rattle.sizes.specs.SizesLaws.{SizesFacts}
use Rattle.record.specs.declared.Record.{Record}
use Rattle.record.specs.Slot.{slot_in, bytes_at, formatted_record, record_sound}
use Rattle.record.specs.SlotLaws.{sound_test, formatted_storable}
use Rattle.record.specs.Flash.{Flash}
use Rattle.record.specs.FlashLaws.{SizedIn}
use Rattle.state.specs.State.{state_at, in_flight}
use Rattle.state.specs.StateLaws.{StateFacts, length_state_words}
use Rattle.state.specs.Change.{at_rest, fresh_state}
use Rattle.table.proofs.OneEach.{length_one_each, OneEach, words_one_each, held_is, held_page}
use Rattle.rules.specs.laws.Volume.{FitsIn}
use Rattle.rules.specs.Format.{formatted_words, formatted_contents, formatted_in}
use Rattle.protocol.specs.View.{NoTwins, pointing_view}
use Rattle.protocol.specs.Shared.{SharedCore, SharedLive, comm_of}
use Rattle.atomicity.specs.Family.{Family}
use Rattle.atomicity.specs.Model.{fresh_model}
use Rattle.atomicity.specs.rings.Match.{IsEntered}
use Rattle.atomicity.proofs.rings.Close.{no_rings_match}
use Rattle.atomicity.proofs.steps.Theory.{Theory}
use Rattle.atomicity.proofs.steps.Invariant.{Held, Live}
use Rattle.atomicity.proofs.steps.StateWords.{live_words}

module _ {F : Family} (T : Theory F) (sizes : Sizes) (bounds : SizesFacts sizes.pages sizes.slots) where
  abbrev words : List ℕ
  words = formatted_words F.layout sizes

  abbrev contents : List ℕ
  contents = formatted_contents sizes

  -- a record stands in the slot of its page, and is the formatted one
  each_page : OneEach sizes.pages sizes.slots (slot_in F.layout words) formatted_record
  unfolding formatted_words formatted_record
  each_page = words_one_each F.layout sizes.pages sizes.slots formatted_record bounds.slots_least (λ k h. refl) (λ k h. formatted_storable F.layout k)

  bytes_of_page : (k : ℕ) → k < sizes.slots → k < sizes.pages → bytes_at sizes.width contents k ≡ replicate sizes.width 0
  unfolding bytes_at formatted_contents
  bytes_of_page k h l =
      part_join_parts sizes.width sizes.slots k (λ k. replicate sizes.width (cond (ltb k sizes.pages) 0 255)) (λ j. length-replicate sizes.width (cond (ltb j sizes.pages) 0 255)) h
      ∙ ap (λ (b : Bool). replicate sizes.width (cond b 0 255)) (lt-ltb k sizes.pages l)

  formatted_sized : SizedIn F.layout sizes.width sizes.slots (formatted_in F.layout sizes).flash
  unfolding formatted_in formatted_words formatted_contents
  formatted_sized =
      record {
        words_sized = length_one_each F.layout sizes.pages sizes.slots formatted_record;
        contents_sized = length_join_parts sizes.width sizes.slots (λ k. replicate sizes.width (cond (ltb k sizes.pages) 0 255)) (λ j. length-replicate sizes.width (cond (ltb j sizes.pages) 0 255));
      }

  pub formatted_fits : (widths : Widths) → widths sizes.width ≡ true → FitsIn F.layout widths sizes (formatted_in F.layout sizes)
  unfolding formatted_in
  formatted_fits widths allowed = record { bounds = bounds; allowed = allowed; flash_sized = formatted_sized; state_sized = length_state_words sizes.pages fresh_state }

  -- every record's version and link version is 0
  versions : (r : Record) (b : List ℕ) → Held F sizes.width sizes.slots (record { words = words; contents = contents }) r b → (r.p < sizes.pages) × (r.v ≡ 0) × (r.c ≡ 0) × (r.np ≡ r.p) × (r.nv ≡ 0)
  unfolding formatted_record
  versions r b h =
      let w = held_is each_page h.0 r h.1 h.2 in
      let l = w.0 in
      let e = w.1 in
      let p = ap (λ (x : Record). x.p) e in
      (omega arith, ap (λ (x : Record). x.v) e, ap (λ (x : Record). x.c) e, ap (λ (x : Record). x.np) e ∙ sym p, ap (λ (x : Record). x.nv) e)

  fresh_rests : (p : ℕ) → in_flight (fresh_state p) ≡ false
  unfolding fresh_state at_rest in_flight
  fresh_rests p = refl

  fresh_versions : (p : ℕ) → ((fresh_state p).committed ≡ 0) × ((fresh_state p).used ≡ 0)
  unfolding fresh_state at_rest
  fresh_versions p = (refl, refl)

  fresh_facts : StateFacts sizes.pages fresh_state
  unfolding fresh_state at_rest in_flight
  fresh_facts =
      record {
        page = λ p h. record {
          committed_used = omega arith;
          used_highest = omega arith;
          flies_below_used = λ y. absurd (never y (fresh_rests p));
          next_below = λ y. absurd (never y (fresh_rests p));
          next_flies = λ y. absurd (never y (fresh_rests p));
          written_bit = omega arith;
          written_flies = λ e. absurd (omega arith);
        };
        apart = λ p q h i y. absurd (never y (fresh_rests p));
      }

  abbrev flash : Flash
  flash = record { words = words; contents = contents }

  start_apart : NoTwins sizes.slots (slot_in F.layout words)
  start_apart = λ j k a b lj lk ea eb p v. let i = held_page each_page j a lj ea in let u = held_page each_page k b lk eb in omega arith

  start_shared : SharedCore (pointing_view T.back) (Held F sizes.width sizes.slots flash) (λ p. 0) sizes.pages (fresh_model sizes.width).kept
  unfolding fresh_model record_sound formatted_record
  start_shared =
      record {
        all_sound = λ r b h. let v = versions r b h in sound_test sizes.pages r (record {
          page_below = v.0;
          next_below = (let l = v.0 in let e = v.3 in omega arith);
          v_most = (let e = v.1 in omega arith);
          c_most = (let e = v.2 in omega arith);
          nv_most = (let e = v.4 in omega arith);
          c_before_v_lem = inr (v.2, v.1);
          own_link = λ q. v.4 ∙ sym v.1;
        });
        one_record = λ r s b d h i p e.
            let k : h.0 ≡ i.0 = sym (held_page each_page h.0 r h.1 h.2) ∙ p ∙ held_page each_page i.0 s i.1 i.2 in (
              (held_is each_page h.0 r h.1 h.2).1 ∙ ap formatted_record k ∙ sym (held_is each_page i.0 s i.1 i.2).1,
              sym h.3 ∙ ap (bytes_at sizes.width contents) k ∙ i.3,
            );
        committed_kept = λ p l. let s = bounds.slots_least in
            (formatted_record p, (p, omega arith, each_page.each p l, bytes_of_page p (omega arith) l), (refl, refl));
        committed_link = λ r b h e. let v = (versions r b h).4 in omega arith;
        links_apart = λ r s b d h i e g p n. let v = (versions r b h).3 in let u = (versions s d i).3 in omega arith;
        exposed_open = λ r b h x. absurd (let v = (versions r b h).1 in omega arith);
      }

  start_core : T.Core (Held F sizes.width sizes.slots flash) (comm_of fresh_state) sizes.pages (fresh_model sizes.width).kept
  start_core =
      T.same _ _ _ _ _ _ _ (record { forth = λ r b h. h; back = λ r b h. h; same_comm = λ p h. sym (fresh_versions p).0; same_kept = λ p h. refl })
      (T.at_start _ _ _ start_shared (λ r b h. let v = versions r b h in (v.1, v.4)))

  start_live : SharedLive (pointing_view T.back) sizes.pages (Held F sizes.width sizes.slots flash) fresh_state (IsEntered [])
  start_live =
      record {
        within_used = record {
          version_used = λ r b h. let v = (versions r b h).1 in omega arith;
          link_used = λ r b h. let v = (versions r b h).4 in omega arith;
        };
        written_stored = λ p h y. absurd (never y (fresh_rests p));
        unwritten_absent = λ p h y. absurd (never y (fresh_rests p));
        link_planned = λ p h y. absurd (never y (fresh_rests p));
      }

  start : Live T sizes flash fresh_state (fresh_model sizes.width)
  unfolding fresh_model
  start =
      record {
        sound = fresh_facts;
        apart = T.apart_at_first sizes.slots (slot_in F.layout words) start_apart;
        core = start_core;
        live = start_live;
        rings = no_rings_match sizes.pages fresh_state (λ p h. fresh_rests p);
      }

  -- the volume that an accepted format leaves
  pub formatted_live : Live T sizes (formatted_in F.layout sizes).flash (state_at (formatted_in F.layout sizes).state) (fresh_model sizes.width)
  unfolding formatted_in
  formatted_live = live_words T sizes flash fresh_state (fresh_model sizes.width) start
