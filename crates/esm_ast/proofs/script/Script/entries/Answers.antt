use Rattle.std.proofs.Common.{◌≤◌, length, subst}
use Rattle.esm_base.specs.declared.limits.TheConstants.{MAX_FILE_BYTES}
use Rattle.esm_ast.specs.Entries.{NamesRequests}
use Rattle.esm_ast.specs.Script.{ScriptParts}
use Rattle.esm_ast.proofs.Small.{requests_at_most}
use Rattle.esm_ast.proofs.Requests.{names_requests}
use Rattle.esm_ast.proofs.script.Script.entries.Goals as goal

pub returns-clause-few : goal.returns-clause-few
returns-clause-few c = let i = c.self.invariant in subst (λ (s : ScriptParts). length s.entries.requests ≤ MAX_FILE_BYTES) c.self.view_is (rw i.1 (requests_at_most _ _ i.0))

pub returns-clause-named : goal.returns-clause-named
returns-clause-named c = let i = c.self.invariant in subst (λ (s : ScriptParts). NamesRequests s.entries (length s.entries.requests)) c.self.view_is (rw i.1 (names_requests _))
