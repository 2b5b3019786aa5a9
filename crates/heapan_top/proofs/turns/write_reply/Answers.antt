-- Where there are bytes for the store, its path is named.
use Rattle.session_replies.specs.Parts.{bytes_saved}
use Rattle.heapan_top.proofs.FedLaws.{saved_has_path}
use Rattle.heapan_top.proofs.turns.write_reply.Goals as goal

pub stored-requires : goal.stored-requires
stored-requires g c =
    saved_has_path c.args.session.now c.args.asked (bytes_saved c.in-Ok.reply.saved) c.args.path c.requires.named c.in-Ok.ensures.saves
