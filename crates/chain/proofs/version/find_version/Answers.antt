use mathlib.Core.Path.{refl, ap, ◌∙◌}
use lib.ListN.{get_or}
use Rattle.chain.proofs.ChainLaws.{chain_by_version}
use Rattle.chain.proofs.version.find_version.Goals as goal

pub find_version_from-requires : goal.find_version_from-requires
find_version_from-requires c = let p = c.requires in
    let a = c.args in
    record {
      n_in_bounds = p.n_in_bounds;
      n_bound = p.n_bound;
      chained_to = record {
        key = a.key;
        versions_together = p.key_value;
        chained = p.chained;
        end_is = c.last_of-last.ensures ∙ ap (λ e. get_or a.chains.now e 0) (chain_by_version a.key p.key_value a.«record» (record { p = a.«record».p; v = a.«record».v; c = 0; np = 0; nv = 0 }) refl refl);
      };
    }
