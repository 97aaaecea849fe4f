use Rattle.esm_rows.specs.Rows.{found_at}
use Rattle.esm_row_laws.proofs.SettingNames as setting
use Rattle.esm_row_laws.proofs.laws.names_set.Goals as goal

pub returns : goal.returns
returns g c = record {
  sets = λ m l rs vss w name v f fit e. setting.sets g.I.Imports.modules g.I.Imports.begins m l w name v rs vss f fit e;
  set_at = λ rs vss name v place constant fit e. setting.here_place name v rs vss (found_at place constant) fit e;
  writes = λ m l rs vss w name v old place fit e at. setting.writes g.I.Imports.modules g.I.Imports.begins m l w name v rs vss old place fit e at;
  written_at = λ rs vss name v place constant fit e. setting.found_place name v rs vss (found_at place constant) fit e;
  unset = λ m l rs vss w name v place constant fit e at. setting.unset g.I.Imports.modules g.I.Imports.begins m l w name v rs vss place constant fit e at;
  constant = λ m l rs vss w name v old place fit e at. setting.constant g.I.Imports.modules g.I.Imports.begins m l w name v rs vss old place fit e at;
}
