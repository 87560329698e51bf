use Rattle.lfm_core.proofs.text.trace.write_place.Goals as goal

pub returns-in-Free : goal.returns-in-Free
returns-in-Free g c = rw c.in-Free.is c.write_text.ensures

pub returns-in-Owner : goal.returns-in-Owner
returns-in-Owner g c = rw c.in-Owner.is (rw c.get.ensures.value at c.write_labelled.ensures)

pub returns-in-Passed : goal.returns-in-Passed
returns-in-Passed g c = rw c.in-Passed.is (rw c.get-in-Passed.ensures.value at c.write_labelled-in-Passed.ensures)

pub returns-in-Posted : goal.returns-in-Posted
returns-in-Posted g c = rw c.in-Posted.is c.write_text-in-Posted.ensures

pub returns-in-Carried : goal.returns-in-Carried
returns-in-Carried g c = rw c.in-Carried.is (rw c.get-in-Carried.ensures.value at c.write_labelled-in-Carried.ensures)
