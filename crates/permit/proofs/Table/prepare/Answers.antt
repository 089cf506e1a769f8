-- What was found is taken for the exposed records.
use mathlib.Core.Path.{◌∙◌}
use Rattle.permit.specs.Prepared.{linkable_within, searchable}
use Rattle.permit.proofs.Table.prepare.Goals as goal

pub find_exposed-requires : goal.find_exposed-requires
find_exposed-requires c = let p = c.requires in linkable_within _ _ _ _ p.linkable p.pages_in_bounds

pub invariant_of-result : goal.invariant_of-result
invariant_of-result c = let p = c.requires in
    record {
      within = linkable_within _ _ _ _ p.linkable p.pages_in_bounds;
      searchable = searchable _ _ _ c.args.state.now _ _ p.linkable c.link_sound_slots.ensures (c.as_slice.ensures ∙ c.find_exposed.ensures);
    }
