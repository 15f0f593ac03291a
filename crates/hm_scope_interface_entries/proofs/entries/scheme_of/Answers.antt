use Rattle.hm_scope_interface_entries.proofs.EntriesMade.{own_scheme, elsewhere, unbound, no_scheme, some_scheme}
use Rattle.hm_scope_interface_entries.proofs.entries.scheme_of.Goals.{else-eq-via-then-eq+else-contains, else-eq-via-else-eq}
use Rattle.hm_scope_interface_entries.proofs.entries.scheme_of.Goals as goal

pub returns-then-contains : goal.returns-then-contains
returns-then-contains c = λ k known t. own_scheme k c.args.values.now known c.args.exported.now.entity c.get.result c.as_str.result.now c.as_str-name.result.now c.eq.result c.contains.result
    c.eq.ensures c.if-eq.true c.contains.ensures c.if-contains.true c.as_str.ensures c.as_str-name.ensures c.get.ensures t

pub returns-in_err-entry : goal.returns-in_err-entry
returns-in_err-entry c = λ k known t. no_scheme k c.args.values.now known c.args.exported.now.entity c.key_of.result c.key_of.ensures
    (elim c.else-eq.branch [
      | else-eq-via-then-eq+else-contains w ↦ unbound k c.args.values.now known c.args.exported.now.entity c.as_str-name.result.now w.contains.result w.contains.ensures w.if-contains.false c.as_str-name.ensures
      | else-eq-via-else-eq w ↦ elsewhere k c.args.values.now known c.args.exported.now.entity c.as_str.result.now c.eq.result c.eq.ensures w.if-eq.false c.as_str.ensures
    ])
    c.from_residual.result c.from_residual.ensures c.in_err-entry.ensures.value t

pub returns : goal.returns
returns c = λ k known t. some_scheme k c.args.values.now known c.args.exported.now.entity c.key_of.result c.key_of.ensures
    (elim c.else-eq.branch [
      | else-eq-via-then-eq+else-contains w ↦ unbound k c.args.values.now known c.args.exported.now.entity c.as_str-name.result.now w.contains.result w.contains.ensures w.if-contains.false c.as_str-name.ensures
      | else-eq-via-else-eq w ↦ elsewhere k c.args.values.now known c.args.exported.now.entity c.as_str.result.now c.eq.result c.eq.ensures w.if-eq.false c.as_str.ensures
    ])
    c.in_ok-entry.entry.now c.in_ok-entry.ensures.value t
