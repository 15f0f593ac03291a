use Rattle.std.proofs.Common.{drop, ◌*◌, ◌+◌}
use Rattle.hm_syntax.specs.Sizes.{expression_size, expressions_size, declaration_size, declarations_size, alternative_size, alternatives_size, right_side_size, bodies_size}
use Rattle.hm_syntax.specs.Lists.{expressions, declarations, alternatives, bodies}
use Rattle.hm_infer_dependencies.specs.References.{ExpressionsRefer, AlternativesRefer, BodiesRefer, DeclarationsRefer}
use Rattle.hm_infer_dependencies.proofs.Rows.{part_size}
use Rattle.hm_infer_dependencies.proofs.Walking.{StillWalks}
use Rattle.hm_infer_dependencies.proofs.references.+walk.Given as goal

abbrev pub decreases-find_in_expr : goal.decreases-find_in_expr
decreases-find_in_expr l = 2 * (expression_size l.expr.now)

abbrev pub decreases-find_in_exprs : goal.decreases-find_in_exprs
decreases-find_in_exprs l = 2 * (expressions_size (expressions l.exprs.now))

abbrev pub decreases-find_in_alts : goal.decreases-find_in_alts
decreases-find_in_alts l = 2 * (alternatives_size (alternatives l.alts.now))

abbrev pub decreases-find_in_alt : goal.decreases-find_in_alt
decreases-find_in_alt l = 2 * (alternative_size l.alt.now)

abbrev pub decreases-find_in_part : goal.decreases-find_in_part
decreases-find_in_part l = 2 * part_size l.part.now + 1

abbrev pub decreases-find_in_rhs : goal.decreases-find_in_rhs
decreases-find_in_rhs l = 2 * (right_side_size l.rhs.now)

abbrev pub decreases-find_in_parts : goal.decreases-find_in_parts
decreases-find_in_parts l = 2 * (bodies_size (bodies l.parts.now))

abbrev pub decreases-find_in_decls : goal.decreases-find_in_decls
decreases-find_in_decls l = 2 * (declarations_size (declarations l.decls.now))

abbrev pub decreases-find_in_decl : goal.decreases-find_in_decl
decreases-find_in_decl l = 2 * (declaration_size l.decl.now)

abbrev pub invariant-find_in_exprs-loop-expr : goal.invariant-find_in_exprs-loop-expr
invariant-find_in_exprs-loop-expr l = StillWalks l.numbers (λ y. ExpressionsRefer y (expressions (drop l.expr-index l.exprs))) (λ y. ExpressionsRefer y (expressions l.exprs)) l.initial.shown l.shown l.initial.found.items l.found.items

abbrev pub invariant-find_in_alts-loop-alt : goal.invariant-find_in_alts-loop-alt
invariant-find_in_alts-loop-alt l = StillWalks l.numbers (λ y. AlternativesRefer y (alternatives (drop l.alt-index l.alts))) (λ y. AlternativesRefer y (alternatives l.alts)) l.initial.shown l.shown l.initial.found.items l.found.items

abbrev pub invariant-find_in_parts-loop-part : goal.invariant-find_in_parts-loop-part
invariant-find_in_parts-loop-part l = StillWalks l.numbers (λ y. BodiesRefer y (bodies (drop l.part-index l.parts))) (λ y. BodiesRefer y (bodies l.parts)) l.initial.shown l.shown l.initial.found.items l.found.items

abbrev pub invariant-find_in_decls-loop-decl : goal.invariant-find_in_decls-loop-decl
invariant-find_in_decls-loop-decl l = StillWalks l.numbers (λ y. DeclarationsRefer y (declarations (drop l.decl-index l.decls))) (λ y. DeclarationsRefer y (declarations l.decls)) l.initial.shown l.shown l.initial.found.items l.found.items
