use Rattle.std.proofs.lemmas.Bool.{false≢true}
use Rattle.hm_lsp_frames.proofs.Pendings.{not_empty}
use Rattle.hm_lsp_frames.proofs.frames.Frames.is_empty.Goals as goal

pub returns-in-Some : goal.returns-in-Some
returns-in-Some c = (λ t. absurd (false≢true t), λ h. absurd (not_empty c.args.self.now.passing c.in-Some.field-0 _ c.in-Some.is h))
