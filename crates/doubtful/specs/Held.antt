-- What a flash with slots in doubt holds.
use Rattle.record.specs.Flash.{Flash, flash}
use Rattle.doubtful.specs.declared.Doubted.{Doubted}

abbrev pub held : Doubted → Flash
held d = flash d.words.now d.contents.now
