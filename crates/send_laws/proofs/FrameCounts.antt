-- How many frames a fast message takes, at the lengths where the number changes. Assumes nothing.
use mathlib.Core.Path.{◌≡◌, refl}
use Rattle.fast_packet.specs.FastPacket.{max_payload}
use Rattle.send_laws.specs.Message.{frame_total}

pub frames :
    (frame_total 1 ≡ 1) × (frame_total 6 ≡ 1) × (frame_total 7 ≡ 2) × (frame_total 9 ≡ 2) × (frame_total 13 ≡ 2) × (frame_total 14 ≡ 3) × (frame_total max_payload ≡ 32)
frames = (refl, refl, refl, refl, refl, refl, refl)
