-- What a server does with a message, by how far its session is (Language Server Protocol 3.17, "Server lifecycle" and "Error Codes").
use Rattle.std.specs.Prelude.{ℕ, ℤ, negsuc, List, None, Option, Some, codes, if◌then◌else◌}
use Rattle.std.specs.Str.{bytes_eq}
use Rattle.hm_lsp_session.specs.declared.stages.Decision.{Decision}
use Rattle.hm_lsp_session.specs.declared.stages.Decision.TheVariants.{End, Go, Ignore, Refuse}
use Rattle.hm_lsp_session.specs.declared.stages.Method.{Method}
use Rattle.hm_lsp_session.specs.declared.stages.Method.TheVariants.{DidChange, DidChangeWatchedFiles, DidClose, DidOpen, Exit, Initialize, Initialized, Question, Shutdown, Unknown}
use Rattle.hm_lsp_session.specs.declared.stages.Question.{Question as Asked}
use Rattle.hm_lsp_session.specs.declared.stages.Question.TheVariants.{CodeAction, Completion, Definition, DocumentHighlight, DocumentSymbol, Hover, PrepareRename, References, Rename, WorkspaceSymbol}
use Rattle.hm_lsp_session.specs.declared.stages.Refusal.{Refusal}
use Rattle.hm_lsp_session.specs.declared.stages.Refusal.TheVariants.{InvalidParams, InvalidRequest, MethodNotFound, NotInitialized, ParseError, RequestCancelled, RequestFailed}
use Rattle.hm_lsp_session.specs.declared.stages.Stage.{Stage}
use Rattle.hm_lsp_session.specs.declared.stages.Stage.TheVariants.{New, Ready, ShutDown}

-- the names of the requests about what texts mean
abbrev pub question_named : List ℕ → Option Asked
question_named name =
    if bytes_eq name (codes "textDocument/hover") then Some Hover
    else (if bytes_eq name (codes "textDocument/definition") then Some Definition
    else (if bytes_eq name (codes "textDocument/references") then Some References
    else (if bytes_eq name (codes "textDocument/documentHighlight") then Some DocumentHighlight
    else (if bytes_eq name (codes "textDocument/documentSymbol") then Some DocumentSymbol
    else (if bytes_eq name (codes "textDocument/codeAction") then Some CodeAction
    else (if bytes_eq name (codes "textDocument/rename") then Some Rename
    else (if bytes_eq name (codes "textDocument/prepareRename") then Some PrepareRename
    else (if bytes_eq name (codes "textDocument/completion") then Some Completion
    else (if bytes_eq name (codes "workspace/symbol") then Some WorkspaceSymbol
    else None)))))))))

abbrev pub method_of_question : Option Asked → Method
method_of_question None = Unknown
method_of_question (Some q) = Question q

-- the names of methods
abbrev pub method_named : List ℕ → Method
method_named name =
    if bytes_eq name (codes "initialize") then Initialize
    else (if bytes_eq name (codes "initialized") then Initialized
    else (if bytes_eq name (codes "shutdown") then Shutdown
    else (if bytes_eq name (codes "exit") then Exit
    else (if bytes_eq name (codes "textDocument/didOpen") then DidOpen
    else (if bytes_eq name (codes "textDocument/didChange") then DidChange
    else (if bytes_eq name (codes "textDocument/didClose") then DidClose
    else (if bytes_eq name (codes "workspace/didChangeWatchedFiles") then DidChangeWatchedFiles
    else method_of_question (question_named name))))))))

-- the codes of errors
abbrev pub code_of : Refusal → ℤ
code_of ParseError = negsuc 32699
code_of InvalidRequest = negsuc 32599
code_of MethodNotFound = negsuc 32600
code_of InvalidParams = negsuc 32601
code_of NotInitialized = negsuc 32001
code_of RequestFailed = negsuc 32802
code_of RequestCancelled = negsuc 32799

-- a request: before `initialize` all others are refused, and after `shutdown` all are. `initialize` comes once
abbrev pub request_decision : Stage → Method → Decision
request_decision New Initialize = Go
request_decision New Initialized = Refuse NotInitialized
request_decision New Shutdown = Refuse NotInitialized
request_decision New Exit = Refuse NotInitialized
request_decision New DidOpen = Refuse NotInitialized
request_decision New DidChange = Refuse NotInitialized
request_decision New DidClose = Refuse NotInitialized
request_decision New DidChangeWatchedFiles = Refuse NotInitialized
request_decision New (Question q) = Refuse NotInitialized
request_decision New Unknown = Refuse NotInitialized
request_decision Ready Initialize = Refuse InvalidRequest
request_decision Ready Shutdown = Go
request_decision Ready (Question q) = Go
request_decision Ready Initialized = Refuse MethodNotFound
request_decision Ready Exit = Refuse MethodNotFound
request_decision Ready DidOpen = Refuse MethodNotFound
request_decision Ready DidChange = Refuse MethodNotFound
request_decision Ready DidClose = Refuse MethodNotFound
request_decision Ready DidChangeWatchedFiles = Refuse MethodNotFound
request_decision Ready Unknown = Refuse MethodNotFound
request_decision ShutDown m = Refuse InvalidRequest

-- the exit status is 0 only after `shutdown`
abbrev pub exit_decision : Stage → Decision
exit_decision New = End 1
exit_decision Ready = End 1
exit_decision ShutDown = End 0

-- a notification while the session is ready: others than these are ignored
abbrev pub ready_decision : Method → Decision
ready_decision Initialized = Go
ready_decision DidOpen = Go
ready_decision DidChange = Go
ready_decision DidClose = Go
ready_decision DidChangeWatchedFiles = Go
ready_decision Initialize = Ignore
ready_decision Shutdown = Ignore
ready_decision Exit = End 1
ready_decision (Question q) = Ignore
ready_decision Unknown = Ignore

-- a notification: before `initialize` and after `shutdown` all are ignored but `exit`
abbrev pub idle_decision : Stage → Method → Decision
idle_decision stage Exit = exit_decision stage
idle_decision stage Initialize = Ignore
idle_decision stage Initialized = Ignore
idle_decision stage Shutdown = Ignore
idle_decision stage DidOpen = Ignore
idle_decision stage DidChange = Ignore
idle_decision stage DidClose = Ignore
idle_decision stage DidChangeWatchedFiles = Ignore
idle_decision stage (Question q) = Ignore
idle_decision stage Unknown = Ignore

abbrev pub notification_decision : Stage → Method → Decision
notification_decision New m = idle_decision New m
notification_decision Ready m = ready_decision m
notification_decision ShutDown m = idle_decision ShutDown m
