use Rattle.zv_edit.proofs.Common.{answers, rules, subst, Takes}
use Rattle.zv_edit.proofs.serving.serve.Goals as goal

pub returns-clause-text : goal.returns-clause-text
returns-clause-text g c =
    subst (λ cs. Takes (g.K.Sink.taken c.args.sink.now) (g.K.Sink.taken c.serve_all.new.sink) c.serve_all.result (answers c.args.map.now.rows cs))
    c.iter.ensures (search rules)
