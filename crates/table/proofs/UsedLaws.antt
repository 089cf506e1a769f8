-- Laws of the used versions: what bounds them, and all pages' raised slot by slot.
use Rattle.std.specs.Prelude.{ℕ, ◌+◌, ◌≤◌, ◌<◌, max, ◌≡◌, refl, List, Bool, true, false, cond, eqb, get_or, set}
use Rattle.std.proofs.Common.{arith, add-one, ap, ◌∙◌, eq-eqb}
use Rattle.bounded.specs.Below.{max_below}
use Rattle.bounded.specs.BelowLaws.{max_above, max_bound}
use Rattle.bounded.specs.Limits.{highest_version}
use Rattle.bounded.specs.Tabulate.{tabulate, tabulate_cong, raise_tabulate}
use Rattle.record.specs.declared.Record.{Record}
use Rattle.record.specs.Slot.{Slot}
use Rattle.std.specs.Prelude.{None, Some}
use Rattle.record.specs.Slot.{record_sound}
use Rattle.record.specs.SlotLaws.{sound_facts}
use Rattle.table.specs.Table.{table_sound, mentioned, used_of}
use Rattle.table.proofs.TableLaws.{sound_at}

-- "all v with that p and all nv with that np" are at most used,
pub used_above_version : (S : ℕ) (t : ℕ → Slot) (k : ℕ) (r : Record) → k < S → t k ≡ Some r → r.v ≤ used_of S t r.p
unfolding used_of mentioned
used_above_version S t k r h e =
    let a = max_above (λ k. mentioned r.p (t k)) S k h in
    let b : mentioned r.p (t k) ≡ max r.v (cond (eqb r.np r.p) r.nv 0) = rw (e, mentioned, eq-eqb r.p r.p refl) in
    omega arith

pub used_above_next : (S : ℕ) (t : ℕ → Slot) (k : ℕ) (r : Record) → k < S → t k ≡ Some r → r.nv ≤ used_of S t r.np
unfolding used_of mentioned
used_above_next S t k r h e =
    let a = max_above (λ k. mentioned r.np (t k)) S k h in
    let b : mentioned r.np (t k) ≡ max (cond (eqb r.p r.np) r.v 0) r.nv = rw (e, mentioned, eq-eqb r.np r.np refl) in
    omega arith

-- in a sound table no version is above the highest there is, so used is not
pub used_most : (P S : ℕ) (t : ℕ → Slot) (p : ℕ) → table_sound P S t ≡ true → used_of S t p ≤ highest_version
unfolding used_of mentioned
used_most P S t p sound =
    max_bound (λ k. mentioned p (t k)) S highest_version (λ k h. mentioned_most (t k) (λ r e. sound_at t P S k sound h e))
  where
    most : (b : Bool) (n : ℕ) → n ≤ highest_version → cond b n 0 ≤ highest_version
    most true n h = h
    most false n h = omega arith

    mentioned_most : (s : Slot) → ((r : Record) → s ≡ Some r → record_sound P r ≡ true) → mentioned p s ≤ highest_version
    mentioned_most None ok = omega arith
    mentioned_most (Some r) ok =
        let f = sound_facts P r (ok r refl) in
        let a = most (eqb r.p p) r.v f.v_most in
        let b = most (eqb r.np p) r.nv f.nv_most in
        omega arith

-- a slot that mentions no page
pub used_blank : (n k : ℕ) (t : ℕ → Slot) → t k ≡ None → tabulate n (used_of k t) ≡ tabulate n (used_of (k + 1) t)
unfolding used_of max_below mentioned
used_blank n k t e =
    tabulate_cong n (used_of k t) (used_of (k + 1) t)
    (λ p h. rw (add-one, max_below, e, mentioned) (let m : max_below k (λ j. mentioned p (t j)) ≡ max (max_below k (λ j. mentioned p (t j))) 0 = omega arith in m))

-- a slot's record raises its page to v and its next page to nv
pub used_raised :
    (n k : ℕ) (t : ℕ → Slot) (r : Record) (a b : List ℕ)
    → t k ≡ Some r
    → r.p < n
    → r.np < n
    → a ≡ set (tabulate n (used_of k t)) r.p (max (get_or (tabulate n (used_of k t)) r.p 0) r.v)
    → b ≡ set a r.np (max (get_or a r.np 0) r.nv)
    → b ≡ tabulate n (used_of (k + 1) t)
unfolding used_of max_below mentioned
used_raised n k t r a b e hp hn ea eb =
    let i = ea ∙ raise_tabulate n r.p r.v (used_of k t) hp in
    eb
    ∙ ap (λ (l : List ℕ). set l r.np (max (get_or l r.np 0) r.nv)) i
    ∙ raise_tabulate n r.np r.nv (λ p. max (used_of k t p) (cond (eqb r.p p) r.v 0)) hn
    ∙ tabulate_cong n _ (used_of (k + 1) t) (λ p h. joined p)
  where
    joined : (p : ℕ) → max (max (used_of k t p) (cond (eqb r.p p) r.v 0)) (cond (eqb r.np p) r.nv 0) ≡ used_of (k + 1) t p
    joined p =
        rw (add-one, max_below, e, mentioned)
        (let m : max (max (max_below k (λ j. mentioned p (t j))) (cond (eqb r.p p) r.v 0)) (cond (eqb r.np p) r.nv 0) ≡ max (max_below k (λ j. mentioned p (t j))) (max (cond (eqb r.p p) r.v 0) (cond (eqb r.np p) r.nv 0)) = omega arith in m)
