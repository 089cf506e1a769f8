-- The volume in front of memory, lent and put back.
use Rattle.std.specs.Prelude.{ℕ, ◌*◌, ◌-◌, min, ◌≡◌, List, length, take, drop}
use Rattle.std.proofs.Math.ListN.{take-append-drop}
use borrow.Rule.Slice.PartMut.{put_mid}
use Rattle.bounded.specs.Fronts.{front_lent, front_back}
use Rattle.sizes.specs.declared.Sizes.{Sizes}
use Rattle.rules.specs.Volume.{Volume, volume}
use Rattle.script.specs.Memory.{in_use, volume_back}

module _ (z : Sizes) (m : Volume) where
  -- what is in use, put back where it was
  pub volume_same : volume_back z m (in_use z m) ≡ m
  unfolding volume_back in_use
  volume_same =
      rw (take-append-drop (5 * z.slots) m.flash.words, take-append-drop (z.width * z.slots) m.flash.contents, take-append-drop (4 * z.pages) m.state)

  -- a volume lent from the front of memory, and put back as another
  module _ (kw kb ks : ℕ) (ew : kw ≡ min (5 * z.slots) (length m.flash.words)) (eb : kb ≡ min (z.width * z.slots) (length m.flash.contents)) (es : ks ≡ min (4 * z.pages) (length m.state)) where
    pub volume_lent : volume (take (kw - 0) (drop 0 m.flash.words)) (take (kb - 0) (drop 0 m.flash.contents)) (take (ks - 0) (drop 0 m.state)) ≡ in_use z m
    unfolding in_use
    volume_lent = rw (front_lent _ kw m.flash.words ew, front_lent _ kb m.flash.contents eb, front_lent _ ks m.state es)

    pub volume_put : (words contents state : List ℕ) → volume (put_mid 0 (kw - 0) m.flash.words words) (put_mid 0 (kb - 0) m.flash.contents contents) (put_mid 0 (ks - 0) m.state state) ≡ volume_back z m (volume words contents state)
    unfolding volume_back
    volume_put words contents state =
        rw (front_back _ kw m.flash.words ew words, front_back _ kb m.flash.contents eb contents, front_back _ ks m.state es state)
