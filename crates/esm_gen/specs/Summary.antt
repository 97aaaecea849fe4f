-- Own: the summary of a run over generated input.
use Rattle.std.specs.Prelude.{◌++◌, codes, decimal}
use Rattle.esm_base.specs.Urls.{Text}
use Rattle.esm_base.specs.Status.{status_code}
use Rattle.esm_gen.specs.declared.summary.Summary.{Summary}

-- how many modules there are, how many bodies were started, how many lines the log has, and the exit status
abbrev pub summary_text : Summary → Text
summary_text run =
    codes "modules " ++ decimal run.modules ++ codes "\nstarted " ++ decimal run.started
    ++ codes "\nlines " ++ decimal run.lines ++ codes "\nstatus " ++ decimal (status_code run.status) ++ codes "\n"
