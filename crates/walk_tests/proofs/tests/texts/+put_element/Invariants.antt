-- Each call has one level less.
use Rattle.walk_tests.proofs.tests.texts.+put_element.Given as goal

abbrev pub decreases-put_element : goal.decreases-put_element
decreases-put_element l = l.levels
