-- The totals stay small: no figure of a volume is more than 1,024.
use Rattle.std.specs.Prelude.{ℕ, ◌+◌, ◌≤◌}
use Rattle.std.proofs.Common.{arith}
use Rattle.fleet.specs.Entry.{Entry, Counted, Refused}
use Rattle.fleet.specs.PageLaws.{SmallEntry}
use Rattle.van.specs.declared.tally.Tally.{Tally}
use Rattle.van.specs.Tally.{together, none_yet, tallied_with, TallyFew}

pub none_few : TallyFew 1 none_yet
unfolding none_yet
none_few =
    record {
      totals = record { pages_in_lem = omega arith; obsolete_in = omega arith; exposed_in = omega arith; needed_in = omega arith };
      volumes = omega arith;
    }

-- of no more volumes than n
pub few_within : (m n : ℕ) (t : Tally) → m ≤ n → TallyFew m t → TallyFew n t
few_within m n t h few =
    let f = few.totals in
    let v = few.volumes in
    record {
      totals = record { pages_in_lem = omega arith; obsolete_in = omega arith; exposed_in = omega arith; needed_in = omega arith };
      volumes = omega arith;
    }

-- one volume more
pub tallied_few : (n : ℕ) (t : Tally) (e : Entry) → TallyFew n t → SmallEntry e → TallyFew (n + 1) (tallied_with t e)
unfolding tallied_with together
tallied_few n t (Counted g) few h =
    let f = few.totals in
    let v = few.volumes in
    record {
      totals = record { pages_in_lem = omega arith; obsolete_in = omega arith; exposed_in = omega arith; needed_in = omega arith };
      volumes = omega arith;
    }
tallied_few n t (Refused a) few h = few_within n (n + 1) t (omega arith) few
