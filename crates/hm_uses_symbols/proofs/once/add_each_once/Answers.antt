use Rattle.hm_uses_symbols.proofs.FirstPlaces.{found_more, found_same, seen_more}
use Rattle.hm_uses_symbols.proofs.once.add_each_once.Goals as goal

pub symbols-preserved-in-Continue-branch-2 : goal.symbols-preserved-in-Continue-branch-2
symbols-preserved-in-Continue-branch-2 c = record {
  found = found_more c.symbols.yielded c.in-Some.symbol c.args.found.now.items c.symbols.found.items c.symbols.seen c.in_ok-note.field-0 c.symbols.invariant.found c.symbols.invariant.seen c.in_ok-note.ensures.added
      c.push.new.self.items c.if-branch.true c.in_ok-push.ensures.items;
  seen = seen_more c.symbols.yielded c.in-Some.symbol c.symbols.seen c.note.new.seen c.symbols.invariant.seen c.in_ok-note.ensures.seen;
}

pub symbols-preserved : goal.symbols-preserved
symbols-preserved c = record {
  found = found_same c.symbols.yielded c.in-Some.symbol c.args.found.now.items c.symbols.found.items c.symbols.seen c.in_ok-note.field-0 c.symbols.invariant.found c.symbols.invariant.seen c.in_ok-note.ensures.added
      c.if-branch.false;
  seen = seen_more c.symbols.yielded c.in-Some.symbol c.symbols.seen c.note.new.seen c.symbols.invariant.seen c.in_ok-note.ensures.seen;
}
