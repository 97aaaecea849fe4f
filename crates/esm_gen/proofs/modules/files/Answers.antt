use Rattle.std.proofs.Common.{◌≡◌, ◌∙◌, ap, ap₂, sym, List, [], ◌∷◌, ◌++◌, map, zero-add, arith}
use Rattle.std.specs.List.{range_with_len}
use Rattle.std.proofs.lemmas.List.{map_push}
use Rattle.std.proofs.lemmas.List.FromFn.{map-range_with_len_more}
use Rattle.esm_gen.specs.Generated.{File, module_file, text_at}
use Rattle.esm_gen.specs.Held.{file_of}
use Rattle.esm_gen.proofs.FileLemmas.{held_is}
use Rattle.esm_gen.proofs.modules.files.Goals as goal

pub loop-number-preserved : goal.loop-number-preserved
loop-number-preserved c =
    let made = module_file c.args.start c.args.count in
    let i = c.loop-number.number in
    ap (map file_of) c.in_ok-push.ensures.items
    ∙ (map_push file_of c.loop-number.files.items c.in_ok-module_file.field-0
    ∙ (ap₂ (λ (files : List File) (file : File). files ++ file ∷ []) c.loop-number.invariant c.in_ok-module_file.ensures
    ∙ sym (map-range_with_len_more made 0 i i (zero-add i))))

pub returns-clause-held : goal.returns-clause-held
returns-clause-held c url =
    let made = module_file c.args.start c.args.count in
    let ended : c.loop-number.number ≡ c.args.count = omega (arith, c.loop-number-test.false, c.loop-number.auto.number-end) in
    held_is c.loop-number.files.items url
    ∙ ap (λ (files : List File). text_at files url) (c.loop-number.invariant ∙ ap (λ n. map made (range_with_len 0 n)) ended)
