-- What the body of a frame leads to.
use Rattle.std.proofs.Common.{◌≡◌, ℕ, List, Option, Some, codes, sym, ap, subst, ◌∙◌}
use Rattle.serde_json.specs.Data.{Data}
use Rattle.serde_json.specs.Find.{get}
use Rattle.serde_json.specs.Read.{read}
use Rattle.hm_lsp_positions.specs.declared.units.Encoding.{Encoding}
use Rattle.hm_lsp_session.specs.Effects.{HasBodyEffect, HasMessageEffect, TextsAre}
use Rattle.hm_lsp_session.specs.Files.{AreFilesSaid, IfBegun, IfFiles, IsBegin, IsBody}
use Rattle.hm_lsp_session.specs.Replies.{IsLeft, IsLeftOf, Takes, TakesBody, method_of, understood}
use Rattle.hm_lsp_session.specs.declared.documents.Documents.{Documents}
use Rattle.hm_lsp_session.specs.declared.session.Outcome.{Outcome}
use Rattle.hm_lsp_session.specs.declared.session.Outcome.TheVariants.{Ask, Begun, Changed, Ended, Files, Nothing, Reply}
use Rattle.hm_lsp_session.specs.declared.stages.Stage.{Stage}
use Rattle.hm_lsp_session.proofs.Going.{begun_for, files_for}

pub taken : (body text : List ℕ) (message : Data) (outcome : Outcome) → text ≡ body → read text ≡ Some message → Takes message (method_of message) (get (codes "id") message) outcome → TakesBody body outcome
taken body text message outcome same is takes = understood (ap read (sym same) ∙ is) takes

-- what is so of a message is so of the body that it is read from
pub texts_of_body : (body text : List ℕ) (message : Data) (encoding : Encoding) (before after : Documents) (outcome : Outcome) → text ≡ body → read text ≡ Some message
    → TextsAre outcome (HasMessageEffect message encoding before after) before after → TextsAre outcome (HasBodyEffect body encoding before after) before after
texts_of_body body text message encoding before after (Reply reply) same is h = h
texts_of_body body text message encoding before after (Ask question request) same is h = h
texts_of_body body text message encoding before after Changed same is h = record { message = message; is_read = ap read (sym same) ∙ is; effect = h }
texts_of_body body text message encoding before after Begun same is h = h
texts_of_body body text message encoding before after (Files uris) same is h = h
texts_of_body body text message encoding before after Nothing same is h = h
texts_of_body body text message encoding before after (Ended status) same is h = h

pub begun_of_body : (body text : List ℕ) (message : Data) (outcome : Outcome) → text ≡ body → read text ≡ Some message → IfBegun outcome (IsBegin message) → IfBegun outcome (IsBody body IsBegin)
begun_of_body body text message outcome same is h = begun_for outcome (IsBegin message) (IsBody body IsBegin) (λ w. (message, (ap read (sym same) ∙ is, w))) h

pub files_of_body : (body text : List ℕ) (message : Data) (outcome : Outcome) → text ≡ body → read text ≡ Some message → IfFiles outcome (AreFilesSaid message)
    → IfFiles outcome (λ uris. IsBody body (λ m. AreFilesSaid m uris))
files_of_body body text message outcome same is h =
    files_for outcome (AreFilesSaid message) (λ uris. IsBody body (λ m. AreFilesSaid m uris)) (λ uris w. (message, (ap read (sym same) ∙ is, w))) h

-- a body is one message
pub one_message : (found : Option Data) (a b : Data) → found ≡ Some a → found ≡ Some b → a ≡ b
one_message found a b one two = cc

pub left_of : (body text : List ℕ) (message : Data) (stage : Stage) (outcome : Outcome) → text ≡ body → read text ≡ Some message → IsLeft stage message outcome → IsLeftOf body stage outcome
left_of body text message stage outcome same is left other utf8 read_as = subst (λ m. IsLeft stage m outcome) (one_message (read body) message other (ap read (sym same) ∙ is) read_as) left
