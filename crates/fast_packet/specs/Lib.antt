pub mod FastPacket
