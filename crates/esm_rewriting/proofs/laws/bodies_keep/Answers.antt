use Rattle.esm_rewriting.proofs.BodyKeeps as lemmas
use Rattle.esm_rewriting.proofs.laws.bodies_keep.Goals as goal

pub returns-clause-keeps : goal.returns-clause-keeps
returns-clause-keeps g c = lemmas.bodies_keep g.A.CallsOfImport.same g.A.CallsOfImport.modules g.A.CallsOfImport.begins

pub returns-clause-begins : goal.returns-clause-begins
returns-clause-begins g c = lemmas.bodies_begin g.A.CallsOfImport.same g.A.CallsOfImport.modules g.A.CallsOfImport.begins
