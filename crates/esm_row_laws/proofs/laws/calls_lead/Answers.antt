use Rattle.esm_expr_eval.specs.Terms.Term.{Waits}
use Rattle.esm_row_laws.specs.Spots.{Posts}
use Rattle.esm_row_laws.proofs.Filling.{fill_of}
use Rattle.esm_row_laws.proofs.Calling as calling
use Rattle.esm_row_laws.proofs.laws.calls_lead.Goals as goal

pub returns : goal.returns
returns g c = record {
  given = λ ls k vss vs t. fill_of t (Posts ls k) vss vs Waits;
  calls = λ m ls k f vs us s operands vss w late callers callee how after room at h e few told seg. calling.calls g.I.Imports.modules g.I.Imports.begins m ls k f vs vss us s operands w late callers callee how after room at h e few told seg;
  stops = λ m ls k f vs us s operands vss w late why callers room at e. calling.stops g.I.Imports.modules g.I.Imports.begins m ls k f vs vss us s operands w late why callers room at e;
  deep = λ m ls k f vs us s operands vss w late callers how after room at h e many seg. calling.deep g.I.Imports.modules g.I.Imports.begins m ls k f vs vss us s operands w late callers how after room at h e many seg;
  refuses = λ m ls k f vs us s operands vss w late room at h e. calling.refuses g.I.Imports.modules g.I.Imports.begins m ls k f vs vss us s operands w late room at h e;
}
