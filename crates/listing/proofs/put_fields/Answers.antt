use Rattle.text.specs.Scan.{bytes}
use Rattle.text.specs.PutsLaws.{puts_field}
use Rattle.listing.specs.Listing.{fields_text}
use Rattle.listing.proofs.put_fields.Goals as goal

pub returns : goal.returns
unfolding fields_text bytes
returns c =
    puts_field _ _ _ (bytes "page=") _ _ c.put_field.ensures
    (puts_field _ _ _ (bytes " version=") _ _ c.put_field-2.ensures
    (puts_field _ _ _ (bytes " slot=") _ _ c.put_field-3.ensures
    (puts_field _ _ _ (bytes " drawn=") _ _ c.put_field-4.ensures c.put_state.ensures)))
