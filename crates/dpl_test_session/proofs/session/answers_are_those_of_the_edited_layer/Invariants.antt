use Rattle.dpl_test_session.proofs.session.answers_are_those_of_the_edited_layer.Given as goal

abbrev pub ghosts-first_wrong_in : goal.ghosts-first_wrong_in
ghosts-first_wrong_in g a = record { name = a.blank.name; parts = a.blank.parts }
