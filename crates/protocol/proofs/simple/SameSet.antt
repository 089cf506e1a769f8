-- Another flash with the same pairs, or other words for the same versions, keeps the invariant of records without a back pointer.
use Rattle.std.specs.Prelude.{ℕ, List}
use Rattle.std.proofs.Common.{arith}
use Rattle.record.specs.declared.Record.{Record}
use Rattle.protocol.specs.View.{Exposed}
use Rattle.protocol.specs.SameSet.{SameRecords, comm_page, comm_next, shared_core_same}
use Rattle.protocol.specs.simple.Core.{simple_view, SimpleCore}

module _ {P : ℕ} {R R' : Record → List ℕ → Type 0} {comm comm' : ℕ → ℕ} {kept kept' : ℕ → List ℕ}
    (same : SameRecords P R R' comm comm' kept kept') (core : SimpleCore R comm P kept) where
  open same use {back}
  open core use {shared, own}
  open own use {exposed_highest, exposed_ahead}

  -- what is exposed was so
  exposed_before : (r : Record) (b : List ℕ) → R' r b → Exposed simple_view comm' r → Exposed simple_view comm r
  exposed_before r b w l = let e = comm_page simple_view same shared r b w in omega arith

  -- the invariant of the same records
  pub simple_same : SimpleCore R' comm' P kept'
  simple_same =
      record {
        shared = shared_core_same simple_view same shared;
        own = record {
          exposed_highest = λ r s b d w u l. exposed_highest r s b d (back r b w) (back s d u) (exposed_before r b w l);
          exposed_ahead = λ r b w l. let a = exposed_ahead r b (back r b w) (exposed_before r b w l) in
              let e = comm_next simple_view same shared r b w in
              ((let n = a.0 in omega arith), λ s d u. a.1 s d (back s d u));
        };
      }
