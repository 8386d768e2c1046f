use denote.Param.Send.{sendable}
use Rattle.shelf.proofs.Crossing.{reader_send}
use Rattle.shelf.proofs.reader.Reader.for_another_thread.Goals as goal

pub crossing-requires-send-T : goal.crossing-requires-send-T
crossing-requires-send-T c κs = search (reader_send, sendable)
