use Rattle.std.proofs.Common.{rules, ◌∙◌, ◌++◌, ap}
use Rattle.std.proofs.lemmas.List.{take_rest}
use Rattle.hm_lsp_frames.proofs.Pendings.{added_passing}
use Rattle.hm_lsp_frames.proofs.frames.Frames.add.Goals as goal

pub returns-clause-added : goal.returns-clause-added
returns-clause-added c =
    λ stream h.
    added_passing c.args.self.now.passing c.in-Some.left c.min-part.result c.compact.new.self.start _ c.compact.new.self.bytes.items c.extend_from_slice-2.new.self.items stream c.args.piece.now
    (search rules) (search rules) (search rules)
    (c.in_ok-extend_from_slice.ensures.items ∙ ap (λ l. c.compact.new.self.bytes.items ++ l) (take_rest c.args.piece.now c.min-part.result))
    (search rules) h
