use Rattle.std.proofs.Common.{refl}
use Rattle.esm_ast.specs.Entries.{request_of}
use Rattle.esm_script.proofs.Items.{other_request}
use Rattle.esm_script.proofs.requests.specifier_of.Goals as goal

pub returns-in-ImportEffect : goal.returns-in-ImportEffect
unfolding request_of
returns-in-ImportEffect c = λ stmts. rw (c.in-ImportEffect.is, c.deref.ensures) refl

pub returns-in-Import : goal.returns-in-Import
unfolding request_of
returns-in-Import c = λ stmts. rw (c.in-Import.is, c.deref-in-Import.ensures) refl

pub returns-in-ExportAll : goal.returns-in-ExportAll
unfolding request_of
returns-in-ExportAll c = λ stmts. rw (c.in-ExportAll.is, c.deref-in-ExportAll.ensures) refl

pub returns-in-ExportAllAs : goal.returns-in-ExportAllAs
unfolding request_of
returns-in-ExportAllAs c = λ stmts. rw (c.in-ExportAllAs.is, c.deref-in-ExportAllAs.ensures) refl

pub returns-in-ExportFrom : goal.returns-in-ExportFrom
unfolding request_of
returns-in-ExportFrom c = λ stmts. rw (c.in-ExportFrom.is, c.deref-in-ExportFrom.ensures) refl

pub returns-in_default : goal.returns-in_default
returns-in_default c = λ stmts. let d = c.in_default in other_request stmts _ d.not-ImportEffect d.not-Import d.not-ExportAll d.not-ExportAllAs d.not-ExportFrom
