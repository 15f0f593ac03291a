use Rattle.hm_lsp_results.proofs.Found.{at_get, no_source, no_text}
use Rattle.hm_lsp_results.proofs.asking.read_text.Goals as goal

pub returns-then-source-clause-some : goal.returns-then-source-clause-some
returns-then-source-clause-some c =
    record {
      source = c.in-Some.source.now;
      at = at_get c.args.held.now c.args.number c.in-Some.source.now c.in-Some.ensures.lookup.3.0 c.in-Some.ensures.lookup.1;
      readable = c.if-source.true;
      is = c.as_slice.ensures.value;
    }

pub returns-in-None-clause-none : goal.returns-in-None-clause-none
returns-in-None-clause-none c text h = no_source c.args.held.now c.args.number text c.in-None.ensures.lookup.3 h

pub returns-else-source-clause-none : goal.returns-else-source-clause-none
returns-else-source-clause-none c text h =
    no_text c.args.held.now c.args.number c.in-Some.source.now text (at_get c.args.held.now c.args.number c.in-Some.source.now c.in-Some.ensures.lookup.3.0 c.in-Some.ensures.lookup.1) c.if-source.false h
