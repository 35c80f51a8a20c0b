use Rattle.machine.proofs.frame.Frame.act_on_objects.Goals as goal

pub returns-in-InvokeVirtual-clause-does : goal.returns-in-InvokeVirtual-clause-does
returns-in-InvokeVirtual-clause-does c = rw c.in-InvokeVirtual.is (c.invoke_virtual.ensures.does c.in-InvokeVirtual.class)

pub returns-in-InitLibrary-clause-does : goal.returns-in-InitLibrary-clause-does
returns-in-InitLibrary-clause-does c = rw c.in-InitLibrary.is (c.init_library.ensures.does c.args.program.now c.in-InitLibrary.class)

pub returns-in-LoadElement-clause-does : goal.returns-in-LoadElement-clause-does
returns-in-LoadElement-clause-does c = rw c.in-LoadElement.is (c.load_element.ensures.does c.args.program.now c.in-LoadElement.field-0)

pub returns-in-NewArray-clause-does : goal.returns-in-NewArray-clause-does
returns-in-NewArray-clause-does c = rw c.in-NewArray.is (c.new_array.ensures.does c.args.program.now)

pub returns-in-ArrayLength-clause-does : goal.returns-in-ArrayLength-clause-does
returns-in-ArrayLength-clause-does c = rw c.in-ArrayLength.is (c.array_length.ensures.does c.args.program.now)

pub returns-in-StoreElement-clause-does : goal.returns-in-StoreElement-clause-does
returns-in-StoreElement-clause-does c = rw c.in-StoreElement.is (c.store_element.ensures.does c.args.program.now)

pub returns-in-CheckCast-clause-does : goal.returns-in-CheckCast-clause-does
returns-in-CheckCast-clause-does c = rw c.in-CheckCast.is (c.check_cast.ensures.does c.args.program.now)

pub returns-in-InstanceOf-clause-does : goal.returns-in-InstanceOf-clause-does
returns-in-InstanceOf-clause-does c = rw c.in-InstanceOf.is (c.instance_of.ensures.does c.args.program.now)
