-- What evidence is of, and the scene that it shows: the volume's, with the exposed records as they were found.
use Rattle.rules.specs.Volume.{Volume, volume}
use Rattle.rules.specs.Permission.{Scene, scene_of}
use Rattle.rules.specs.Found.{by_found}
use Rattle.judge.specs.declared.Evidence.{Evidence}

abbrev pub volume_of : Evidence → Volume
volume_of e = volume e.table.words.now e.contents.now e.table.state.now

abbrev pub shown : Evidence → Scene
shown e = by_found (scene_of e.table.sizes (volume_of e)) e.table.found.now
