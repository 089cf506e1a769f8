-- A returned number and the outcome that it says, for calls that are refused and calls that are done.
use Rattle.std.specs.Prelude.{ℕ, ◌^◌, ◌/◌, ◌%◌, ◌≡◌}
use Rattle.std.proofs.Common.{sym, ap, ◌∙◌}
use Rattle.outcome.specs.Outcome.{Outcome, settled, returned}
use Rattle.outcome.specs.OutcomeLaws.{settled_answer, settled_refused, settled_done}

-- the outcome with these numbers and these buffers
abbrev pub outcome_of : {B : Type 0} → (answer second : ℕ) (left : B) → Outcome B
outcome_of answer second left = record { answer = answer; second = second; left = left }

-- r has the answer in its lower 32 bits and the second number in its upper 32
abbrev pub Replies : (r answer second : ℕ) → Type 0
Replies r answer second = returned {B = Unit {0}} r tt ≡ outcome_of answer second tt

pub replies : (r answer second : ℕ) → r % 2 ^ 32 ≡ answer → r / 2 ^ 32 ≡ second → Replies r answer second
replies r answer second low high = rw (low, high)

module _ (r answer second : ℕ) (e : Replies r answer second) where
  pub reply_answer : r % 2 ^ 32 ≡ answer
  reply_answer = ap (λ (o : Outcome (Unit {0})). o.answer) e

  -- the same number, its second written otherwise
  pub reply_second : {s : ℕ} → second ≡ s → Replies r answer s
  reply_second q = e ∙ ap (λ (s : ℕ). outcome_of answer s tt) q

module _ {B : Type 0} where
  -- the same numbers, with the buffers that the call leaves
  pub reply_with : (r answer second : ℕ) (left : B) → Replies r answer second → returned r left ≡ outcome_of answer second left
  reply_with r answer second left e = ap {B = Outcome B} (λ (o : Outcome (Unit {0})). outcome_of o.answer o.second left) e

  module _ (r n refused_second second : ℕ) {answer : ℕ} (before after : B) where
    -- A refused call replies its answer and the refusal's second number, and leaves the buffers.
    pub reply_refused : Replies r n refused_second → n ≡ answer → ¬ (n ≡ 0) → returned r before ≡ settled answer refused_second second before after
    reply_refused e q h =
        reply_with r n refused_second before e
        ∙ sym (settled_refused n refused_second second before after h)
        ∙ ap (λ (a : ℕ). settled a refused_second second before after) q

    -- A call that is done replies 0 and its second number.
    pub reply_done : Replies r n second → n ≡ answer → n ≡ 0 → returned r after ≡ settled answer refused_second second before after
    reply_done e q h =
        reply_with r n second after e
        ∙ ap {B = Outcome B} (λ (a : ℕ). outcome_of a second after) h
        ∙ sym (settled_done answer refused_second second before after (sym q ∙ h))

-- r says what a call that leaves no buffer settles
abbrev pub Settles : (r answer refused_second second : ℕ) → Type 0
Settles r answer refused_second second = returned {B = Unit {0}} r tt ≡ settled answer refused_second second tt tt

module _ (r answer refused_second second : ℕ) (e : Settles r answer refused_second second) where
  -- its answer is the call's
  pub settles_answer : r % 2 ^ 32 ≡ answer
  settles_answer = ap (λ (o : Outcome (Unit {0})). o.answer) e ∙ settled_answer answer refused_second second tt tt

  pub settles_same : {a : ℕ} → answer ≡ a → Settles r a refused_second second
  settles_same q = e ∙ ap (λ (a : ℕ). settled a refused_second second tt tt) q

  -- With the buffers that the call leaves it says what the call settles: where it refuses,
  pub settles_refused : {B : Type 0} (before after : B) → ¬ (r % 2 ^ 32 ≡ 0) → returned r before ≡ settled answer refused_second second before after
  settles_refused before after n =
      let no : ¬ (answer ≡ 0) = λ z. n (settles_answer ∙ z) in
      reply_with r answer refused_second before (e ∙ settled_refused answer refused_second second tt tt no) ∙ sym (settled_refused answer refused_second second before after no)

  -- and where it is done
  pub settles_done : {B : Type 0} (before after : B) → r % 2 ^ 32 ≡ 0 → returned r after ≡ settled answer refused_second second before after
  settles_done before after z =
      let same : answer ≡ 0 = sym settles_answer ∙ z in
      reply_with r 0 second after (e ∙ settled_done answer refused_second second tt tt same) ∙ sym (settled_done answer refused_second second before after same)
