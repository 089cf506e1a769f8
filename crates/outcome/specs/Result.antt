-- What a call gives back as a Result, and the answer and the outcome that it says: 0 for done, and each refusal's number.
use Rattle.std.specs.Prelude.{ℕ, ◌≡◌, refl, Result, Ok, Err}
use Rattle.std.proofs.Common.{arith, sym, ap, ◌∙◌}
use Rattle.std.specs.Result.{IsErrAnd}
use Rattle.std.proofs.lemmas.Result.{err_from_is_err_and}
use Rattle.outcome.specs.declared.Refusal.{Refusal}
use Rattle.outcome.specs.declared.Refusal.TheVariants.{WrongSize, SlotUnsound, RecordsClash, LinksAstray, StateUnsound, WrongList, PageInFlight, VersionsExhausted, PageNotInFlight, PageWritten, SlotNotBlank, MayNotErase, NothingToErase, NoCommittedRecord, TooFewBlank, WouldBury, WrongBlocks, NothingToLookAt, TooManyDoubtful, NoFillingRecovers}
use Rattle.outcome.specs.Outcome.{Outcome, settled, returned}
use Rattle.outcome.specs.OutcomeLaws.{settled_refused, settled_done}
use Rattle.outcome.specs.Reply.{outcome_of, reply_with}
use Rattle.outcome.specs.Chain.{first_of, first_refuses, first_passes}

-- a refusal's number in C
abbrev pub number_of : Refusal → ℕ
number_of WrongSize = 1
number_of SlotUnsound = 2
number_of RecordsClash = 3
number_of LinksAstray = 4
number_of StateUnsound = 5
number_of WrongList = 6
number_of PageInFlight = 7
number_of VersionsExhausted = 8
number_of PageNotInFlight = 9
number_of PageWritten = 10
number_of SlotNotBlank = 11
number_of MayNotErase = 12
number_of NothingToErase = 13
number_of NoCommittedRecord = 14
number_of TooFewBlank = 15
number_of WouldBury = 16
number_of WrongBlocks = 17
number_of NothingToLookAt = 18
number_of TooManyDoubtful = 19
number_of NoFillingRecovers = 20

-- no refusal answers 0
pub number_positive : (refusal : Refusal) → ¬ (number_of refusal ≡ 0)
number_positive WrongSize e = omega arith
number_positive SlotUnsound e = omega arith
number_positive RecordsClash e = omega arith
number_positive LinksAstray e = omega arith
number_positive StateUnsound e = omega arith
number_positive WrongList e = omega arith
number_positive PageInFlight e = omega arith
number_positive VersionsExhausted e = omega arith
number_positive PageNotInFlight e = omega arith
number_positive PageWritten e = omega arith
number_positive SlotNotBlank e = omega arith
number_positive MayNotErase e = omega arith
number_positive NothingToErase e = omega arith
number_positive NoCommittedRecord e = omega arith
number_positive TooFewBlank e = omega arith
number_positive WouldBury e = omega arith
number_positive WrongBlocks e = omega arith
number_positive NothingToLookAt e = omega arith
number_positive TooManyDoubtful e = omega arith
number_positive NoFillingRecovers e = omega arith

-- the answer that a result says
abbrev pub answer_of : {A : Type 0} → Result A Refusal → ℕ
answer_of (Ok x) = 0
answer_of (Err refusal) = number_of refusal

module _ {B : Type 0} where
  -- The outcome that a result says, with the buffers as the call leaves them: of a call with a second number,
  abbrev pub outcome_by : (refused_second : ℕ) → Result ℕ Refusal → B → Outcome B
  outcome_by refused_second (Ok second) left = outcome_of 0 second left
  outcome_by refused_second (Err refusal) left = outcome_of (number_of refusal) refused_second left

  -- and of one whose second number is always 0.
  abbrev pub ends : Result (Unit {0}) Refusal → B → Outcome B
  ends (Ok x) left = outcome_of 0 0 left
  ends (Err refusal) left = outcome_of (number_of refusal) 0 left

  module _ (refused_second second : ℕ) {answer : ℕ} (before after : B) where
    -- A refused call settles its refusal's number and leaves the buffers,
    pub refused : (refusal : Refusal) → number_of refusal ≡ answer → outcome_of (number_of refusal) refused_second before ≡ settled answer refused_second second before after
    refused refusal e =
        sym (settled_refused (number_of refusal) refused_second second before after (number_positive refusal))
        ∙ ap (λ (a : ℕ). settled a refused_second second before after) e

    -- and a call that is done settles 0 and its second number.
    pub done : 0 ≡ answer → outcome_of 0 second after ≡ settled answer refused_second second before after
    done e = sym (settled_done answer refused_second second before after (sym e))

-- what a `?` gives back of a call that refused
pub given_back : {A : Type 0} (r : Result A Refusal) {refusal : Refusal} → IsErrAnd r (λ d. d ≡ refusal) → r ≡ Err refusal
given_back r {refusal} e = let p = err_from_is_err_and r e in rw p.2 at p.1

-- r says in one number what a result gives
abbrev pub Gives : (r refused_second : ℕ) → Result ℕ Refusal → Type 0
Gives r refused_second given = returned {B = Unit {0}} r tt ≡ outcome_by refused_second given tt

-- … with whatever buffers the call leaves
pub gives : {B : Type 0} (r refused_second : ℕ) (given : Result ℕ Refusal) (left : B) → Gives r refused_second given → returned r left ≡ outcome_by refused_second given left
gives r refused_second (Ok second) left e = reply_with r 0 second left e
gives r refused_second (Err refusal) left e = reply_with r (number_of refusal) refused_second left e

-- r says in one number what a result without a second number gives, which is then 0
abbrev pub Ends : (r : ℕ) → Result (Unit {0}) Refusal → Type 0
Ends r given = returned {B = Unit {0}} r tt ≡ ends given tt

pub ended : {B : Type 0} (r : ℕ) (given : Result (Unit {0}) Refusal) (left : B) → Ends r given → returned r left ≡ ends given left
ended r (Ok x) left e = reply_with r 0 0 left e
ended r (Err refusal) left e = reply_with r (number_of refusal) 0 left e

-- ---- a chain of conditions in two parts

-- the first part refuses
pub refuses : (refusal : Refusal) {first : ℕ} (own : ℕ) → number_of refusal ≡ first → number_of refusal ≡ first_of first own
refuses refusal own e = first_refuses (number_of refusal) own e (number_positive refusal)

-- the first part passes
pub passes : (m : ℕ) {first own : ℕ} → 0 ≡ first → m ≡ own → m ≡ first_of first own
passes m e h = first_passes 0 m e refl h
