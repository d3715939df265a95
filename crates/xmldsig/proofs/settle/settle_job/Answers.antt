use Rattle.xmldsig.proofs.settle.settle_job.Goals as goal

pub returns-in-Validate : goal.returns-in-Validate
returns-in-Validate g c = rw c.in-Validate.is c.settle_validation.ensures

pub returns-in-Canon : goal.returns-in-Canon
returns-in-Canon g c = rw c.in-Canon.is c.settle_form.ensures

pub returns-in-Sign : goal.returns-in-Sign
returns-in-Sign g c = rw c.in-Sign.is c.settle_signing.ensures

pub returns-in-Template : goal.returns-in-Template
returns-in-Template g c = rw c.in-Template.is c.settle_template.ensures

pub returns-in-SelfTest : goal.returns-in-SelfTest
returns-in-SelfTest g c = rw c.in-SelfTest.is c.settle_self_test.ensures
