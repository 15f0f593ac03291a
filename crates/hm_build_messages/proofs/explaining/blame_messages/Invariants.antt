use Rattle.std.proofs.Common.{map, take}
use Rattle.hm_messages.specs.Messages.{AreEach}
use Rattle.hm_build_messages.specs.Explanations.{IsBlameMessage, blamed_of}
use Rattle.hm_build_messages.proofs.explaining.blame_messages.Given as goal

abbrev pub invariant-loop-blame : goal.invariant-loop-blame
invariant-loop-blame l = AreEach (IsBlameMessage l.pages.format l.page.file.now l.page.lines) (map blamed_of (take l.blame-index l.blames)) l.text.items
