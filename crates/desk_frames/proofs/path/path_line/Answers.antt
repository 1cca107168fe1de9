use Rattle.desk_frames.proofs.PathLines.{feed_asks, path_put}
use Rattle.desk_frames.proofs.path.path_line.Goals as goal

pub line_feed-requires : goal.line_feed-requires
line_feed-requires c =
    let head = rw c.to_be_bytes.ensures at c.bytes.ensures in
    feed_asks c.args.task c.args.path.now head c.bytes-2.ensures c.requires.0

pub returns : goal.returns
returns c =
    let head = rw c.to_be_bytes.ensures at c.bytes.ensures in
    path_put c.args.task c.args.path.now head c.bytes-2.ensures c.requires.1 c.line_feed.ensures
