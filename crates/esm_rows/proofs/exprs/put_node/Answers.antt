use Rattle.std.proofs.Common.{refl}
use Rattle.std.proofs.lemmas.Result.{on_ok_weaker}
use Rattle.esm_tree.specs.Syntax as x
use Rattle.esm_tree.specs.Flat.{part, parts, compared_parts, links}
use Rattle.esm_rows.specs.Rows.{Operation as o}
use Rattle.esm_rows.specs.Locals.{names_of}
use Rattle.esm_rows.specs.Making.{or_tasks, and_tasks, sum_tasks, compare_tasks, part_tasks, links_tasks}
use Rattle.esm_rows.specs.declared.op.Op.TheVariants as op
use Rattle.esm_rows.specs.declared.tasks.Task.TheVariants as task
use Rattle.std.proofs.Common.{[], ◌∷◌, ◌++◌, length}
use Rattle.std.specs.List.{flat_map}
use Rattle.esm_rows.proofs.Steps.{leaf, became, plain_ors, plain_ands, plain_sums, plain_compared, plain_links, plain_all, or_makes, and_makes, sum_makes, equal_makes, post_makes, print_makes}
use Rattle.esm_rows.proofs.exprs.put_node.Goals as goal

pub returns-in-Text : goal.returns-in-Text
returns-in-Text c = λ exprs whole leads is left. on_ok_weaker c.put_literal.result (leaf (names_of c.args.blocks.now) exprs c.args.tasks.now.items c.args.id (x.Text c.in-Text.text) leads (rw c.in-Text.is at is)) (rw c.as_str.ensures.value at (c.put_literal.ensures leads.row leads.told))

pub returns-in-Truth : goal.returns-in-Truth
returns-in-Truth c = λ exprs whole leads is left. on_ok_weaker c.put.result (leaf (names_of c.args.blocks.now) exprs c.args.tasks.now.items c.args.id (x.Truth c.in-Truth.truth) leads (rw c.in-Truth.is at is)) (c.put.ensures leads.row (o.Truth c.in-Truth.truth) leads.told refl)

pub returns-in-Undefined : goal.returns-in-Undefined
returns-in-Undefined c = λ exprs whole leads is left. on_ok_weaker c.put-in-Undefined.result (leaf (names_of c.args.blocks.now) exprs c.args.tasks.now.items c.args.id x.Undefined leads (rw c.in-Undefined.is at is)) (c.put-in-Undefined.ensures leads.row o.Undefined leads.told refl)

pub returns-in-Name : goal.returns-in-Name
returns-in-Name c = λ exprs whole leads is left. on_ok_weaker c.put_read.result (leaf (names_of c.args.blocks.now) exprs c.args.tasks.now.items c.args.id (x.Name c.in-Name.name) leads (rw c.in-Name.is at is)) (rw c.as_str-in-Name.ensures.value at (c.put_read.ensures leads.row leads.told))

pub returns-in-EmptyError : goal.returns-in-EmptyError
returns-in-EmptyError c = λ exprs whole leads is left. on_ok_weaker c.put_empty_error.result (leaf (names_of c.args.blocks.now) exprs c.args.tasks.now.items c.args.id x.EmptyError leads (rw c.in-EmptyError.is at is)) (c.put_empty_error.ensures leads.row leads.told)

pub returns-in-Url : goal.returns-in-Url
returns-in-Url c = λ exprs whole leads is left. on_ok_weaker c.put-in-Url.result (leaf (names_of c.args.blocks.now) exprs c.args.tasks.now.items c.args.id x.Url leads (rw c.in-Url.is at is)) (c.put-in-Url.ensures leads.row o.Url leads.told refl)

pub returns-in-Group : goal.returns-in-Group
returns-in-Group c = λ exprs whole leads is left. on_ok_weaker c.push_task.result (became (names_of c.args.blocks.now) exprs c.args.tasks.now.items (task.Part c.in-Group.inner ∷ []) _ c.args.id (x.Group (part exprs c.in-Group.inner)) leads (rw c.in-Group.is at is) (tt, tt) refl) c.push_task.ensures

pub returns-in-Or : goal.returns-in-Or
returns-in-Or c = λ exprs whole leads is left. on_ok_weaker c.push_or.result (became (names_of c.args.blocks.now) exprs c.args.tasks.now.items (task.Part c.in-Or.first ∷ flat_map (or_tasks c.args.left) c.in-Or.others.items) _ c.args.id (x.Or (part exprs c.in-Or.first) (parts exprs c.in-Or.others.items)) leads (rw c.in-Or.is at is) (tt, plain_ors c.args.left c.in-Or.others.items) (or_makes (names_of c.args.blocks.now) exprs c.in-Or.first c.in-Or.others.items c.args.left leads.row left)) c.push_or.ensures

pub returns-in-And : goal.returns-in-And
returns-in-And c = λ exprs whole leads is left. on_ok_weaker c.push_and.result (became (names_of c.args.blocks.now) exprs c.args.tasks.now.items (task.Part c.in-And.first ∷ flat_map (and_tasks c.args.left) c.in-And.others.items) _ c.args.id (x.And (part exprs c.in-And.first) (parts exprs c.in-And.others.items)) leads (rw c.in-And.is at is) (tt, plain_ands c.args.left c.in-And.others.items) (and_makes (names_of c.args.blocks.now) exprs c.in-And.first c.in-And.others.items c.args.left leads.row left)) c.push_and.ensures

pub returns-in-Equal : goal.returns-in-Equal
returns-in-Equal c = λ exprs whole leads is left. on_ok_weaker c.push_equal.result (became (names_of c.args.blocks.now) exprs c.args.tasks.now.items (task.Part c.in-Equal.first ∷ flat_map compare_tasks c.in-Equal.others.items) _ c.args.id (x.Equal (part exprs c.in-Equal.first) (compared_parts exprs c.in-Equal.others.items)) leads (rw c.in-Equal.is at is) (tt, plain_compared c.in-Equal.others.items) (equal_makes (names_of c.args.blocks.now) exprs c.in-Equal.first c.in-Equal.others.items leads.row)) (rw c.as_slice.ensures.value at c.push_equal.ensures)

pub returns-in-Sum : goal.returns-in-Sum
returns-in-Sum c = λ exprs whole leads is left. on_ok_weaker c.push_sum.result (became (names_of c.args.blocks.now) exprs c.args.tasks.now.items (task.Part c.in-Sum.first ∷ flat_map sum_tasks c.in-Sum.others.items) _ c.args.id (x.Sum (part exprs c.in-Sum.first) (parts exprs c.in-Sum.others.items)) leads (rw c.in-Sum.is at is) (tt, plain_sums c.in-Sum.others.items) (sum_makes (names_of c.args.blocks.now) exprs c.in-Sum.first c.in-Sum.others.items leads.row)) c.push_sum.ensures

pub returns-in-Not : goal.returns-in-Not
returns-in-Not c = λ exprs whole leads is left. on_ok_weaker c.push_then.result (became (names_of c.args.blocks.now) exprs c.args.tasks.now.items (task.Part c.in-Not.inner ∷ task.Put op.Not ∷ []) _ c.args.id (x.Not (part exprs c.in-Not.inner)) leads (rw c.in-Not.is at is) (tt, ((λ texts. refl), tt)) refl) c.push_then.ensures

pub returns-in-NewError : goal.returns-in-NewError
returns-in-NewError c = λ exprs whole leads is left. on_ok_weaker c.push_then-in-NewError.result (became (names_of c.args.blocks.now) exprs c.args.tasks.now.items (task.Part c.in-NewError.message ∷ task.Put op.NewError ∷ []) _ c.args.id (x.NewError (part exprs c.in-NewError.message)) leads (rw c.in-NewError.is at is) (tt, ((λ texts. refl), tt)) refl) c.push_then-in-NewError.ensures

pub returns-in-Import : goal.returns-in-Import
returns-in-Import c = λ exprs whole leads is left. on_ok_weaker c.push_then-in-Import.result (became (names_of c.args.blocks.now) exprs c.args.tasks.now.items (task.Part c.in-Import.specifier ∷ task.Put op.Import ∷ []) _ c.args.id (x.Import (part exprs c.in-Import.specifier)) leads (rw c.in-Import.is at is) (tt, ((λ texts. refl), tt)) refl) c.push_then-in-Import.ensures

pub returns-in-Post : goal.returns-in-Post
returns-in-Post c = λ exprs whole leads is left. on_ok_weaker c.push_post.result (became (names_of c.args.blocks.now) exprs c.args.tasks.now.items (task.Part c.in-Post.head ∷ links_tasks c.args.id 0 c.in-Post.links.items) _ c.args.id (x.Post (part exprs c.in-Post.head) (links exprs c.in-Post.links.items)) leads (rw c.in-Post.is at is) (tt, plain_links c.args.id 0 c.in-Post.links.items) (post_makes (names_of c.args.blocks.now) exprs c.args.id c.in-Post.head c.in-Post.links.items leads.row (rw c.in-Post.is at is))) (rw c.as_slice-in-Post.ensures.value at c.push_post.ensures)

pub returns-in-Print : goal.returns-in-Print
returns-in-Print c = λ exprs whole leads is left. on_ok_weaker c.push_print.result (became (names_of c.args.blocks.now) exprs c.args.tasks.now.items (flat_map part_tasks c.in-Print.values.items ++ task.Put (op.Print (length c.in-Print.values.items)) ∷ []) _ c.args.id (x.Print (parts exprs c.in-Print.values.items)) leads (rw c.in-Print.is at is) (plain_all c.in-Print.values.items (op.Print (length c.in-Print.values.items)) (λ texts. refl)) (print_makes (names_of c.args.blocks.now) exprs c.in-Print.values.items leads.row)) c.push_print.ensures
