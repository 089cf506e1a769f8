-- A volume at the front of buffers that have room for a larger one: a line works on the part in use and leaves what is behind it.
use Rattle.std.specs.Prelude.{◌*◌, ◌++◌, take, drop}
use Rattle.sizes.specs.declared.Sizes.{Sizes}
use Rattle.rules.specs.Volume.{Volume, volume}

-- the volume of sizes z at the front of memory
unfoldable pub in_use : Sizes → Volume → Volume
in_use z m = volume (take (5 * z.slots) m.flash.words) (take (z.width * z.slots) m.flash.contents) (take (4 * z.pages) m.state)

-- memory with this volume in front of what is behind the part in use
unfoldable pub volume_back : Sizes → (memory v : Volume) → Volume
volume_back z m v =
    volume
    (v.flash.words ++ drop (5 * z.slots) m.flash.words)
    (v.flash.contents ++ drop (z.width * z.slots) m.flash.contents)
    (v.state ++ drop (4 * z.pages) m.state)
