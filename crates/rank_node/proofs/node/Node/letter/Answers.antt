use Rattle.std.proofs.Common.{sym, ◌∙◌, subst}
use Rattle.std.proofs.lemmas.Result.{IfOk-weaker}
use Rattle.bern_base.specs.declared.letter.Letter.{Letter}
use Rattle.rank_model.specs.Products.{scripts}
use Rattle.rank_node.specs.NodeStates.{node_of, IsFirstOfRest, IsNextToPost}
use Rattle.rank_node.proofs.ListLemmas.{some_same}
use Rattle.rank_node.proofs.PositionLemmas.{post_request, post_values}
use Rattle.rank_node.proofs.NodeLemmas.{letter_fits}
use Rattle.rank_node.proofs.node.Node.letter.Goals as goal

pub returns-in-Request-clause-rest : goal.returns-in-Request-clause-rest
returns-in-Request-clause-rest g c =
    let n = c.args.self.now in
    let P : Letter → Type 0 = IsFirstOfRest (scripts g.run) n.rank (node_of g.run n) in
    let fits = letter_fits g.run n.rank c.in-Request.to (node_of g.run n) _ _ c.requires.0.fit (post_request g.run n.rank c.in-Request.to n.stage c.in-Request.is c.requires.0.letter) in
    IfOk-weaker c.request.result _ P (λ l is. subst P (sym is) fits.0) c.request.ensures

pub returns-in-Request-clause-next : goal.returns-in-Request-clause-next
returns-in-Request-clause-next g c =
    let n = c.args.self.now in
    let P : Letter → Type 0 = IsNextToPost (scripts g.run) n.rank (node_of g.run n) in
    let fits = letter_fits g.run n.rank c.in-Request.to (node_of g.run n) _ _ c.requires.0.fit (post_request g.run n.rank c.in-Request.to n.stage c.in-Request.is c.requires.0.letter) in
    IfOk-weaker c.request.result _ P (λ l is. subst P (sym is) fits.1) c.request.ensures

pub returns-in-Values-clause-rest : goal.returns-in-Values-clause-rest
returns-in-Values-clause-rest g c =
    let n = c.args.self.now in
    let P : Letter → Type 0 = IsFirstOfRest (scripts g.run) n.rank (node_of g.run n) in
    let posts = post_values g.run n.rank c.in-Values.to n.stage c.in-Values.is c.requires.0.letter in
    let fits = letter_fits g.run n.rank c.in-Values.to (node_of g.run n) posts.letter _ c.requires.0.fit posts.todo in
    IfOk-weaker c.own_values.result _ P (λ l is. subst P (some_same (sym posts.is ∙ is)) fits.0) c.own_values.ensures

pub returns-in-Values-clause-next : goal.returns-in-Values-clause-next
returns-in-Values-clause-next g c =
    let n = c.args.self.now in
    let P : Letter → Type 0 = IsNextToPost (scripts g.run) n.rank (node_of g.run n) in
    let posts = post_values g.run n.rank c.in-Values.to n.stage c.in-Values.is c.requires.0.letter in
    let fits = letter_fits g.run n.rank c.in-Values.to (node_of g.run n) posts.letter _ c.requires.0.fit posts.todo in
    IfOk-weaker c.own_values.result _ P (λ l is. subst P (some_same (sym posts.is ∙ is)) fits.1) c.own_values.ensures
