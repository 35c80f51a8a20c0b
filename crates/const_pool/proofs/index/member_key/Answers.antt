use Rattle.const_pool.proofs.index.member_key.Goals as goal

pub returns-in-Field : goal.returns-in-Field
returns-in-Field c = rw c.in-Field.is c.reference_key.ensures

pub returns-in-Method : goal.returns-in-Method
returns-in-Method c = rw c.in-Method.is c.reference_key-in-Method.ensures

pub returns-in-InterfaceMethod : goal.returns-in-InterfaceMethod
returns-in-InterfaceMethod c = rw c.in-InterfaceMethod.is c.reference_key-in-InterfaceMethod.ensures
