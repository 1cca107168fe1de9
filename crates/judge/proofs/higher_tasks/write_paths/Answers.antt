use Rattle.std.proofs.lemmas.List.{length_push}
use Rattle.std.proofs.lemmas.Slice.Zip.{zip_turn, zip_end}
use Rattle.judge.proofs.Missing.{place_asks, miss_more, miss_all}
use Rattle.judge.proofs.higher_tasks.write_paths.Goals as goal

pub write_place-cells-requires : goal.write_place-cells-requires
write_place-cells-requires c =
    let r = c.requires.held in
    let turn = zip_turn c.args.t.now.tasks c.args.places.now c.loop-next.yielded c.into_iter-next-iterator.result c.loop-next.next-iterator c.next.new.self _ (cc) (cc) c.loop-next.yielded_by _ c.in-Some.is c.next.ensures.steps in
    place_asks _ r.0 _ r.1 _ r.2 r.3 _ c.requires.room c.loop-next.invariant turn c.requires.counted

pub loop-next-preserved : goal.loop-next-preserved
loop-next-preserved c =
    let r = c.requires.held in
    let turn = zip_turn c.args.t.now.tasks c.args.places.now c.loop-next.yielded c.into_iter-next-iterator.result c.loop-next.next-iterator c.next.new.self _ (cc) (cc) c.loop-next.yielded_by _ c.in-Some.is c.next.ensures.steps in
    miss_more _ r.0 _ r.1 _ r.2 r.3 _ c.requires.room c.loop-next.invariant turn (length_push c.loop-next.yielded _) c.write_place-cells.ensures

pub returns : goal.returns
returns c =
    let r = c.requires.held in
    let end = zip_end c.args.t.now.tasks c.args.places.now c.loop-next.yielded c.into_iter-next-iterator.result c.loop-next.next-iterator c.next.new.self _ (cc) (cc) c.loop-next.yielded_by c.in-None.is c.next.ensures.steps in
    miss_all _ r.0 _ r.1 _ r.2 r.3 _ c.requires.room c.loop-next.invariant end
