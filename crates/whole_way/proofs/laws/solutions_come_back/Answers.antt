use Rattle.whole_way.proofs.laws.solutions_come_back.Goals as goal

pub returns-clause-comes_back : goal.returns-clause-comes_back
returns-clause-comes_back c = c.solutions_come_back_in_kind.ensures.comes_back

pub returns-clause-best : goal.returns-clause-best
returns-clause-best c = c.solutions_come_back_in_kind.ensures.best

pub returns-clause-pairs : goal.returns-clause-pairs
returns-clause-pairs c = c.solutions_come_back_in_kind.ensures.pairs
